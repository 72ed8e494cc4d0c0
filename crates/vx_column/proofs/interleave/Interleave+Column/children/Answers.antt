use Rattle.std.proofs.Common.{sym, subst, ◌∙◌}
use Rattle.std.specs.List.{All}
use Rattle.vx_column.specs.Columns.{IsSound, IsPlain}
use Rattle.vx_column.proofs.Layers.{interleaved_held, interleaved_plain}
use Rattle.vx_column.proofs.interleave.Interleave+Column.children.Goals as goal

pub returns-clause-sound : goal.returns-clause-sound
returns-clause-sound c = subst (All IsSound) (sym (c.as_slice.ensures ∙ c.get.ensures)) (interleaved_held c.args.self.now c.requires)

pub returns-clause-plain : goal.returns-clause-plain
returns-clause-plain c plain = subst (All IsPlain) (sym (c.as_slice.ensures ∙ c.get.ensures)) (interleaved_plain c.args.self.now plain)
