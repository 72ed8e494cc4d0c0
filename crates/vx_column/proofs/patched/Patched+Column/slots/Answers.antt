use Rattle.std.proofs.Common.{◌∙◌, sym, subst}
use Rattle.std.specs.List.{All}
use Rattle.vx_column.specs.Columns.{IsSound}
use Rattle.vx_column.proofs.Layers.{lane_slots_here, lane_slots_held}
use Rattle.vx_column.proofs.patched.Patched+Column.slots.Goals as goal

pub returns-clause-value : goal.returns-clause-value
returns-clause-value c = c.as_slice.ensures ∙ c.get.ensures ∙ lane_slots_here c.args.self.now c.requires

pub returns-clause-sound : goal.returns-clause-sound
returns-clause-sound c = subst (All IsSound) (sym (c.as_slice.ensures ∙ c.get.ensures)) (lane_slots_held c.args.self.now c.requires)
