use Rattle.std.proofs.Common.{ℕ, ◌≡◌, ◌<◌, ◌≤◌, ◌∙◌, ◌+◌, ◌++◌, length, get_or, drop, ap, sym, refl, arith}
use Rattle.std.specs.Prelude.{None}
use Rattle.vx_patches.specs.Pairs.{pairs_of, firsts}
use Rattle.vx_patch_flat.proofs.Laying.{laid_next, laid_long}
use Rattle.vx_patch_flat.proofs.Pairs.{row_below, row_rises, pair_is}
use Rattle.vx_patch_flat.proofs.overlay.laid_over.Goals as goal

pub returns-in_err-from-clause-rise : goal.returns-in_err-from-clause-rise
returns-in_err-from-clause-rise g c =
    let o = c.args.patches.now in
    let inside : c.loop-place.place < length (pairs_of o) = omega (arith, c.num_patches-place-end.ensures, c.loop-place-test.true) in
    let ordered = c.loop-place.invariant.ordered inside in
    omega (arith, row_below o c.requires.sound c.loop-place.place inside, c.requires.long, ordered, c.lay_next.ensures.rise, c.loop-place.invariant.rise)

pub loop-place-preserved : goal.loop-place-preserved
loop-place-preserved g c =
    let o = c.args.patches.now in
    let base = c.args.base.now.rows in
    let place = c.loop-place.place in
    let row = get_or (firsts (pairs_of o)) place 0 in
    let v = get_or o.values.rows place None in
    let inside : place < length (pairs_of o) = omega (arith, c.num_patches-place-end.ensures, c.loop-place-test.true) in
    let below : row < length base = omega (arith, row_below o c.requires.sound place inside, c.requires.long) in
    let ordered : c.loop-place.from ≤ row = c.loop-place.invariant.ordered inside in
    let next : c.in_ok-from.from ≡ row + 1 = c.in_ok-from.ensures.next in
    record {
      laid =
          ap (λ (n : ℕ). c.lay_next.new.rows ++ drop n base) next
          ∙ laid_next base c.loop-place.rows c.lay_next.new.rows (pairs_of o) place c.loop-place.from row v c.loop-place.invariant.laid c.loop-place.invariant.long ordered below inside
          (pair_is o c.requires.sound place inside row v refl refl) c.in_ok-from.ensures.ok;
      long = laid_long base c.loop-place.rows c.lay_next.new.rows c.loop-place.from row v c.loop-place.invariant.long ordered below c.in_ok-from.ensures.ok ∙ sym next;
      inside = omega arith;
      ordered = λ more. omega (arith, row_rises o c.requires.sound place more);
      rise = omega (arith, c.lay_next.ensures.rise, c.loop-place.invariant.rise);
      monotone = omega (arith, c.lay_next.ensures.monotone, c.loop-place.invariant.monotone);
    }
