use Rattle.std.proofs.Common.{◌∙◌, length, sym, subst}
use Rattle.vx_masks.specs.Masks.{bits_of}
use Rattle.vx_patches.specs.Places.{indices_of, rows_of}
use Rattle.vx_patches.specs.Pairs.{Overlay}
use Rattle.vx_patches.proofs.Columns.{rows_number}
use Rattle.vx_patch_select.specs.Patched.{AreUnmasked}
use Rattle.vx_patch_select.proofs.Filtering.{empty_is, empty_not}
use Rattle.vx_patch_select.proofs.Unmasking.{places_seen, places_rise, places_inside, places_few, none_left, are_left, as_many_seen, read_at_most}
use Rattle.vx_patch_select.proofs.unmask.some_unmasked.Goals as goal

pub returns-then-is_empty-clause-ok : goal.returns-then-is_empty-clause-ok
returns-then-is_empty-clause-ok g c =
    let bits = bits_of c.args.mask.now in
    let o = c.args.patches.now in
    let places = c.as_slice-places.result.now in
    let seen = places_seen bits o.index c.new-rows.result c.array_len.result c.offset.result c.indices.result.now places c.in_ok-plan.plan c.new-rows.ensures c.offset.ensures c.indices.ensures c.in_ok-plan.ensures.ok c.as_slice-places.ensures in
    none_left bits o c.array_len.ensures.sound places seen (empty_is (length places) (sym c.is_empty.ensures ∙ c.if-is_empty.true))

pub pick_left-requires-clause-rising : goal.pick_left-requires-clause-rising
pick_left-requires-clause-rising g c =
    let bits = bits_of c.args.mask.now in
    let o = c.args.patches.now in
    let places = c.as_slice-places.result.now in
    let seen = places_seen bits o.index c.new-rows.result c.array_len.result c.offset.result c.indices.result.now places c.in_ok-plan.plan c.new-rows.ensures c.offset.ensures c.indices.ensures c.in_ok-plan.ensures.ok c.as_slice-places.ensures in
    places_rise bits (rows_of o.index) places seen

pub pick_left-requires-clause-within : goal.pick_left-requires-clause-within
pick_left-requires-clause-within g c =
    let bits = bits_of c.args.mask.now in
    let o = c.args.patches.now in
    let places = c.as_slice-places.result.now in
    let seen = places_seen bits o.index c.new-rows.result c.array_len.result c.offset.result c.indices.result.now places c.in_ok-plan.plan c.new-rows.ensures c.offset.ensures c.indices.ensures c.in_ok-plan.ensures.ok c.as_slice-places.ensures in
    places_inside bits (rows_of o.index) places (length o.values.rows) seen (rows_number o.index ∙ sym c.array_len.ensures.sound.values)

pub returns-clause-ok : goal.returns-clause-ok
returns-clause-ok g c =
    let bits = bits_of c.args.mask.now in
    let o = c.args.patches.now in
    let places = c.as_slice-places.result.now in
    let seen = places_seen bits o.index c.new-rows.result c.array_len.result c.offset.result c.indices.result.now places c.in_ok-plan.plan c.new-rows.ensures c.offset.ensures c.indices.ensures c.in_ok-plan.ensures.ok c.as_slice-places.ensures in
    let sound = c.array_len.ensures.sound in
    subst (λ (left : Overlay). AreUnmasked bits o left) (sym c.in_ok-left.ensures.ok)
    (are_left bits o sound places seen (places_inside bits (rows_of o.index) places (length o.values.rows) seen (rows_number o.index ∙ sym sound.values))
    (empty_not (length places) (sym c.is_empty.ensures ∙ c.if-is_empty.false)) c.requires.some)

pub returns-clause-rise : goal.returns-clause-rise
returns-clause-rise g c =
    let bits = bits_of c.args.mask.now in
    let o = c.args.patches.now in
    let places = c.as_slice-places.result.now in
    let seen = places_seen bits o.index c.new-rows.result c.array_len.result c.offset.result c.indices.result.now places c.in_ok-plan.plan c.new-rows.ensures c.offset.ensures c.indices.ensures c.in_ok-plan.ensures.ok c.as_slice-places.ensures in
    read_at_most c.args.steps.now c.plan_mask.new.steps c.pick_left.new.steps (length (indices_of c.new-rows.result)) (length (indices_of o.index)) (length (rows_of o.index)) (length places)
    c.plan_mask.ensures.rise c.pick_left.ensures.rise (as_many_seen o.index c.new-rows.result c.array_len.result c.offset.result c.indices.result.now c.new-rows.ensures c.indices.ensures)
    (places_few bits (rows_of o.index) places seen) (rows_number o.index)

pub returns-in_err-left-clause-rise : goal.returns-in_err-left-clause-rise
returns-in_err-left-clause-rise g c =
    let bits = bits_of c.args.mask.now in
    let o = c.args.patches.now in
    let places = c.as_slice-places.result.now in
    let seen = places_seen bits o.index c.new-rows.result c.array_len.result c.offset.result c.indices.result.now places c.in_ok-plan.plan c.new-rows.ensures c.offset.ensures c.indices.ensures c.in_ok-plan.ensures.ok c.as_slice-places.ensures in
    read_at_most c.args.steps.now c.plan_mask.new.steps c.pick_left.new.steps (length (indices_of c.new-rows.result)) (length (indices_of o.index)) (length (rows_of o.index)) (length places)
    c.plan_mask.ensures.rise c.pick_left.ensures.rise (as_many_seen o.index c.new-rows.result c.array_len.result c.offset.result c.indices.result.now c.new-rows.ensures c.indices.ensures)
    (places_few bits (rows_of o.index) places seen) (rows_number o.index)
