use Rattle.std.proofs.Common.{ap, sym, subst, ◌∙◌}
use Rattle.vx_column.specs.Columns.{IsSound, type_of, len_of, is_plain}
use Rattle.vx_column.proofs.Layers.{inner_held, type_patched, plain_patched}
use Rattle.vx_column.proofs.LaneRows.{len_patched}
use Rattle.vx_column.proofs.patched.Patched+Column.inner.Goals as goal

pub returns-clause-sound : goal.returns-clause-sound
returns-clause-sound c = subst IsSound (sym c.get.ensures) (inner_held c.args.self.now c.requires)

pub returns-clause-len : goal.returns-clause-len
returns-clause-len c = ap len_of c.get.ensures ∙ sym (len_patched c.args.self.now)

pub returns-clause-dtype : goal.returns-clause-dtype
returns-clause-dtype c = ap type_of c.get.ensures ∙ sym (type_patched c.args.self.now)

pub returns-clause-plain : goal.returns-clause-plain
returns-clause-plain c plain = ap is_plain c.get.ensures ∙ sym (plain_patched c.args.self.now) ∙ plain
