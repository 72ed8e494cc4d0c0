use Rattle.std.proofs.Common.{◌≡◌, sym, ap, ◌∙◌, subst}
use Rattle.std.specs.List.{slice_range}
use Rattle.vx_base.specs.Column.{Flat, flat}
use Rattle.vx_lanes.specs.declared.layout.Layout.{Layout}
use Rattle.vx_lanes.specs.Layouts.{IsLayout, layout_part}
use Rattle.vx_lanes.proofs.Slices.{part_is}
use Rattle.vx_lanes.proofs.lanes.Lanes.part.Goals as goal

-- the parts made are those of the part
made : (c : goal.In_ok-share-2) → ◌≡◌ {A = Layout} (record { len = c.args.len; n_lanes = c.n_lanes.result; offset = c.args.offset; lane_offsets = c.in_ok-window.field-0; patch_indices = c.in_ok-share.field-0; patch_values = c.in_ok-share-2.field-0 })
    (layout_part c.args.self.now c.args.len c.args.offset c.args.from c.args.to)
made c =
    part_is c.args.self.now c.args.len c.n_lanes.result c.args.offset c.args.from c.args.to c.in_ok-window.field-0 c.in_ok-share.field-0 c.in_ok-share-2.field-0
    c.n_lanes.ensures.value (c.in_ok-window.ensures.ok ∙ ap (λ (w : Flat). flat w.dtype (slice_range w.rows c.args.from c.args.to)) c.lane_offsets.ensures) (c.in_ok-share.ensures.ok ∙ c.patch_indices.ensures) (c.in_ok-share-2.ensures.ok ∙ c.patch_values.ensures)

pub invariant_of-result : goal.invariant_of-result
invariant_of-result c = subst (λ (m : Layout). IsLayout m) (sym (made c)) c.requires.sound

pub returns-clause-ok : goal.returns-clause-ok
returns-clause-ok c = made c
