use Rattle.std.proofs.Common.{◌∙◌, ◌<◌, ℕ, List, length, get_or, ap, arith}
use Rattle.vx_patches.specs.Places.{rows_of}
use Rattle.vx_patches.proofs.Columns.{rows_rise, rows_number}
use Rattle.vx_patch_select.proofs.Mapped.{finds_none, finds_more, finds_all, rows_named, pairs_number}
use Rattle.vx_patch_select.proofs.place_map.places_by_row.Goals as goal

pub loop-place-init : goal.loop-place-init
loop-place-init g c = record { finds = finds_none (rows_of c.args.patches.now.index) c.new-places.result c.new-places.ensures.empty; cost = omega arith }

pub returns-in_err-put-clause-rise : goal.returns-in_err-put-clause-rise
returns-in_err-put-clause-rise g c =
    let o = c.args.patches.now in
    let sound = c.array_len-row_count.ensures.sound in
    omega (arith, c.loop-place.invariant.cost, c.row_at.ensures.cost, c.num_patches-place-end.ensures, pairs_number o sound, rows_number o.index, c.loop-place-test.true)

pub returns-in_err-put-clause-monotone : goal.returns-in_err-put-clause-monotone
returns-in_err-put-clause-monotone g c = omega (arith, c.loop-place.invariant.cost, c.row_at.ensures.cost)

pub loop-place-preserved : goal.loop-place-preserved
loop-place-preserved g c =
    let o = c.args.patches.now in
    let sound = c.array_len-row_count.ensures.sound in
    let place = c.loop-place.place in
    let inside : place < length (rows_of o.index) = omega (arith, c.num_patches-place-end.ensures, pairs_number o sound, c.loop-place-test.true) in
    record {
      finds = finds_more (rows_of o.index) place c.row_at.result c.loop-place.places c.put.new.places (rows_rise o.index sound.index) inside
          (c.row_at.ensures.row ∙ ap (λ (ns : List ℕ). get_or ns place 0) (rows_named o sound)) c.loop-place.invariant.finds c.in_ok-put.ensures;
      cost = omega (arith, c.loop-place.invariant.cost, c.row_at.ensures.cost);
    }

pub returns-clause-ok : goal.returns-clause-ok
returns-clause-ok g c =
    let o = c.args.patches.now in
    let sound = c.array_len-row_count.ensures.sound in
    finds_all (rows_of o.index) c.loop-place.place c.loop-place.places (omega (arith, c.num_patches-place-end.ensures, pairs_number o sound, c.loop-place-test.false)) c.loop-place.invariant.finds

pub returns-clause-rise : goal.returns-clause-rise
returns-clause-rise g c =
    let o = c.args.patches.now in
    let sound = c.array_len-row_count.ensures.sound in
    omega (arith, c.loop-place.invariant.cost, c.num_patches-place-end.ensures, pairs_number o sound, rows_number o.index)

pub returns-clause-monotone : goal.returns-clause-monotone
returns-clause-monotone g c = omega (arith, c.loop-place.invariant.cost)
