use Rattle.std.proofs.Common.{◌∙◌, ◌<◌, All, length, sym, ap, subst, arith}
use Rattle.std.specs.Prelude.{Some}
use Rattle.vx_base.specs.Column.{Flat, flat}
use Rattle.vx_bulk.specs.Selections.{picked_at}
use Rattle.vx_masks.specs.Masks.{bits_of}
use Rattle.vx_patch_select.specs.declared.plan.Kept.{Kept}
use Rattle.vx_patch_select.specs.Plans.{planned}
use Rattle.vx_patch_select.specs.Patched.{fresh}
use Rattle.vx_patch_select.proofs.Filtering.{filter_made, filter_none, places_within, indices_rise, indices_below, few_kept, as_many, empty_is, empty_not}
use Rattle.vx_patch_select.proofs.select.pick_kept.Goals as goal

pub returns-then-is_empty-clause-ok : goal.returns-then-is_empty-clause-ok
returns-then-is_empty-clause-ok g c =
    filter_none (bits_of c.args.mask.now) c.args.patches.now c.array_len-row_count.ensures.sound c.as_slice-places.result.now (c.as_slice-places.ensures ∙ ap (λ (k : Kept). k.places) c.requires)
    (empty_is (length c.as_slice-places.result.now) (sym c.is_empty.ensures ∙ c.if-is_empty.true))

pub pick-requires : goal.pick-requires
pick-requires g c =
    let places = c.as_slice-places.result.now in
    subst (λ (v : Flat). All (λ place. place < length v.rows) places) (sym c.values.ensures)
    (places_within (bits_of c.args.mask.now) c.args.patches.now c.array_len-row_count.ensures.sound places (c.as_slice-places.ensures ∙ ap (λ (k : Kept). k.places) c.requires))

pub returns-in_err-values-clause-rise : goal.returns-in_err-values-clause-rise
returns-in_err-values-clause-rise g c =
    omega (
      arith,
      c.pick.ensures.most,
      few_kept (bits_of c.args.mask.now) c.args.patches.now.index c.array_len-row_count.ensures.sound.index c.as_slice-places.result.now (c.as_slice-places.ensures ∙ ap (λ (k : Kept). k.places) c.requires),
    )

pub fresh-requires-clause-rising : goal.fresh-requires-clause-rising
fresh-requires-clause-rising g c =
    indices_rise (bits_of c.args.mask.now) c.args.patches.now.index c.array_len-row_count.ensures.sound.index c.as_slice.result.now (c.as_slice.ensures ∙ ap (λ (k : Kept). k.indices) c.requires)

pub fresh-requires-clause-below : goal.fresh-requires-clause-below
fresh-requires-clause-below g c =
    let indices = c.as_slice.ensures ∙ ap (λ (k : Kept). k.indices) c.requires in
    let places = c.as_slice-places.ensures ∙ ap (λ (k : Kept). k.places) c.requires in
    indices_below (bits_of c.args.mask.now) c.args.patches.now.index c.array_len-row_count.ensures.sound.index c.as_slice.result.now c.true_count.result indices c.true_count.ensures.count
    (omega (
      arith,
      as_many (planned (bits_of c.args.mask.now) c.args.patches.now.index) c.as_slice.result.now c.as_slice-places.result.now indices places,
      empty_not (length c.as_slice-places.result.now) (sym c.is_empty.ensures ∙ c.if-is_empty.false),
    ))

pub returns-in_err-left-clause-rise : goal.returns-in_err-left-clause-rise
returns-in_err-left-clause-rise g c =
    omega (
      arith,
      c.pick.ensures.most,
      few_kept (bits_of c.args.mask.now) c.args.patches.now.index c.array_len-row_count.ensures.sound.index c.as_slice-places.result.now (c.as_slice-places.ensures ∙ ap (λ (k : Kept). k.places) c.requires),
    )

pub returns-clause-ok : goal.returns-clause-ok
returns-clause-ok g c =
    let places = c.as_slice-places.result.now in
    let indices = c.as_slice.result.now in
    ap (λ o. Some o) c.in_ok-left.ensures.ok
    ∙ ap (λ (v : Flat). Some (fresh c.true_count.result indices v)) (c.in_ok-values.ensures.ok ∙ ap (λ (v : Flat). flat v.dtype (picked_at v.rows places)) c.values.ensures)
    ∙ filter_made (bits_of c.args.mask.now) c.args.patches.now c.array_len-row_count.ensures.sound c.true_count.result indices places (c.as_slice.ensures ∙ ap (λ (k : Kept). k.indices) c.requires)
    (c.as_slice-places.ensures ∙ ap (λ (k : Kept). k.places) c.requires) (empty_not (length places) (sym c.is_empty.ensures ∙ c.if-is_empty.false)) c.true_count.ensures.count

pub returns-clause-rise : goal.returns-clause-rise
returns-clause-rise g c =
    omega (
      arith,
      c.pick.ensures.most,
      few_kept (bits_of c.args.mask.now) c.args.patches.now.index c.array_len-row_count.ensures.sound.index c.as_slice-places.result.now (c.as_slice-places.ensures ∙ ap (λ (k : Kept). k.places) c.requires),
    )
