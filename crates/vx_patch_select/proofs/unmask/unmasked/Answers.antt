use Rattle.std.proofs.Common.{sym, subst, arith}
use Rattle.vx_masks.specs.Masks.{bits_of}
use Rattle.vx_patches.specs.Pairs.{Overlay}
use Rattle.vx_patch_select.specs.Patched.{AreUnmasked}
use Rattle.vx_patch_select.proofs.Unmasking.{whole_left, nothing_left}
use Rattle.vx_patch_select.proofs.unmask.unmasked.Goals as goal

pub returns-then-true_count-eq0-clause-ok : goal.returns-then-true_count-eq0-clause-ok
returns-then-true_count-eq0-clause-ok g c =
    let bits = bits_of c.args.mask.now in
    let o = c.args.patches.now in
    subst (λ (left : Overlay). AreUnmasked bits o left) (sym c.in_ok-whole.ensures.ok)
    (whole_left bits o c.array_len-expected.ensures.sound (omega (arith, c.if-true_count-eq0.true, c.true_count-true_count.ensures.count)))

pub returns-then-true_count-found-clause-ok : goal.returns-then-true_count-found-clause-ok
returns-then-true_count-found-clause-ok g c =
    nothing_left (bits_of c.args.mask.now) c.args.patches.now c.array_len-expected.ensures.sound
    (omega (arith, c.if-found-expected.false, c.len-found.ensures, c.array_len-expected.ensures.len))
    (omega (arith, c.if-true_count-found.true, c.true_count-true_count.ensures.count, c.len-found.ensures))
