use Rattle.std.proofs.Common.{◌≡◌, ◌∙◌, ap, arith}
use Rattle.std.proofs.lemmas.Result.{IfOk-weaker}
use Rattle.vx_masks.specs.Bits.{count_true}
use Rattle.vx_masks.specs.Masks.{bits_of}
use Rattle.vx_patches.specs.Pairs.{pairs_of}
use Rattle.vx_patch_select.specs.Selected.{kept_pairs}
use Rattle.vx_patch_select.specs.Patched.{pairs_left}
use Rattle.vx_patch_select.proofs.Numbers.{pairs_of_pairs}
use Rattle.vx_patch_select.proofs.Filtering.{whole_kept, is_all}
use Rattle.vx_patch_select.proofs.select.PatchesSelectPatches.filter.Goals as goal

pub returns-then-true_count-found-clause-pairs : goal.returns-then-true_count-found-clause-pairs
returns-then-true_count-found-clause-pairs g c =
    ap pairs_of c.in_ok-share.ensures.ok
    ∙ whole_kept (bits_of c.args.mask.now) c.args.self.now c.array_len-expected.ensures.sound (omega (arith, c.if-found-expected.false, c.len-found.ensures, c.array_len-expected.ensures.len))
    (omega (arith, c.if-true_count-found.true, c.true_count.ensures.count, c.len-found.ensures))

pub returns-then-true_count-found-clause-fresh : goal.returns-then-true_count-found-clause-fresh
returns-then-true_count-found-clause-fresh g c =
    λ some. absurd (is_all (bits_of c.args.mask.now) (omega (arith, c.if-true_count-found.true, c.true_count.ensures.count, c.len-found.ensures)) some)

pub returns-clause-pairs : goal.returns-clause-pairs
returns-clause-pairs g c =
    let bits = bits_of c.args.mask.now in
    let o = c.args.self.now in
    IfOk-weaker c.filtered.result _ (λ left. pairs_left left ≡ kept_pairs bits (pairs_of o)) (λ left e. ap pairs_left e ∙ pairs_of_pairs (count_true bits) o.values.dtype (kept_pairs bits (pairs_of o))) c.filtered.ensures.ok
