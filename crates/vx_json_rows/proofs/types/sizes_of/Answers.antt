use Rattle.std.proofs.Common.{length, ap, ◌∙◌}
use Rattle.vx_json_rows.proofs.Readings.{pair_other}
use Rattle.vx_json_rows.proofs.types.sizes_of.Goals as goal

pub returns-then-items-ne2 : goal.returns-then-items-ne2
returns-then-items-ne2 c = pair_other _ _ _ c.in_ok-array_of.field-0.now.items c.in_ok-array_of.ensures
    (λ h. c.if-items-ne2.true (ap length c.as_slice-items.ensures.value ∙ h))
