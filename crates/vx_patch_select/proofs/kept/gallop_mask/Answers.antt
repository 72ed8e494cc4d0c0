use Rattle.std.proofs.Common.{◌∙◌, ◌+◌, ◌≤◌, ◌<◌, ◌++◌, ◌∷◌, [], ℕ, length, get_or, sym, ap, subst, arith}
use Rattle.std.specs.List.Sorted.{IsStrictlyIncreasing}
use Rattle.vx_base.specs.Checks.{count_below}
use Rattle.vx_masks.specs.Masks.{bits_of}
use Rattle.vx_patches.specs.Places.{rows_of}
use Rattle.vx_patches.proofs.Counts.{Rising-from_increasing, count-le}
use Rattle.vx_patches.proofs.Columns.{rows_number, rows_rise}
use Rattle.vx_patch_select.specs.Plans.{IsKeptTo}
use Rattle.vx_patch_select.proofs.Keeping.{kept_yes, kept_no}
use Rattle.vx_patch_select.proofs.Galloping.{places_rise, places_rank}
use Rattle.vx_patch_select.proofs.kept.gallop_mask.Goals as goal
use Rattle.vx_patch_select.proofs.kept.gallop_mask.Goals.{then-value+in_ok-push, else-value}

pub first_place-start-requires-clause-rising : goal.first_place-start-requires-clause-rising
first_place-start-requires-clause-rising g c = subst IsStrictlyIncreasing (sym c.requires.places) (places_rise 0 (bits_of c.args.mask.now))

pub first_place-start-requires-clause-start : goal.first_place-start-requires-clause-start
first_place-start-requires-clause-start g c =
    subst (λ (n : ℕ). c.loop-place.start ≤ count_below n c.args.places.now) (sym c.at-row.ensures.row)
    (c.loop-place.invariant.start c.loop-place.place (omega arith) (omega (arith, c.loop-place-test.true, c.len-place-end.ensures.len, rows_number c.args.rows.now)))

pub loop-place-preserved : goal.loop-place-preserved
loop-place-preserved g c =
    let bits = bits_of c.args.mask.now in
    let rows = rows_of c.args.rows.now in
    let place = c.loop-place.place in
    let inv = c.loop-place.invariant in
    let here : place < length rows = omega (arith, c.loop-place-test.true, c.len-place-end.ensures.len, rows_number c.args.rows.now) in
    let rising = Rising-from_increasing c.args.places.now (subst IsStrictlyIncreasing (sym c.requires.places) (places_rise 0 bits)) in
    let first = c.first_place-start.ensures.first in
    let ranked = first ∙ ap (count_below c.at-row.result) c.requires.places ∙ places_rank c.at-row.result bits in
    record {
      kept = elim c.if-value.branch as (λ _. IsKeptTo bits rows (place + 1) c.if-value.kept) [
        | then-value+in_ok-push w ↦
            subst (IsKeptTo bits rows (place + 1)) (sym w.kept-is)
            (kept_yes bits rows place c.at-row.result c.loop-place.kept w.push.new.self inv.kept here c.at-row.ensures.row (sym c.value.ensures ∙ w.if-value.true) w.in_ok-push.ensures.places
            (w.in_ok-push.ensures.indices ∙ ap (λ (n : ℕ). c.loop-place.kept.indices ++ n ∷ []) ranked))
        | else-value w ↦
            subst (IsKeptTo bits rows (place + 1)) (sym w.kept-is)
            (kept_no bits rows place c.at-row.result c.loop-place.kept inv.kept here c.at-row.ensures.row (sym c.value.ensures ∙ w.if-value.false))
      ];
      start = λ k a b.
          omega (
            arith,
            first,
            count-le c.at-row.result (get_or rows k 0) c.args.places.now rising (omega (arith, c.at-row.ensures.row, rows_rise c.args.rows.now c.len-place-end.ensures.sound place k (omega arith) b)),
          );
      monotone = omega (arith, c.first_place-start.ensures.monotone, c.at-row.ensures.cost, inv.monotone);
    }
