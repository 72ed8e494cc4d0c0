use Rattle.std.proofs.Common.{ap, sym, subst, ◌∙◌}
use Rattle.vx_column.specs.Columns.{IsSound, len_of, is_plain}
use Rattle.vx_column.proofs.Layers.{values_held, exceptions_here, type_excepted, both_plain}
use Rattle.vx_column.proofs.excepted.Excepted+Column.values.Goals as goal

pub returns-clause-sound : goal.returns-clause-sound
returns-clause-sound c = subst IsSound (sym c.get.ensures) (values_held c.args.self.now c.requires)

pub returns-clause-len : goal.returns-clause-len
returns-clause-len c = ap len_of c.get.ensures ∙ (exceptions_here c.args.self.now c.requires).paired

pub returns-clause-alike : goal.returns-clause-alike
returns-clause-alike c = rw (c.get.ensures, type_excepted c.args.self.now) (exceptions_here c.args.self.now c.requires).alike

pub returns-clause-plain : goal.returns-clause-plain
returns-clause-plain c plain = ap is_plain c.get.ensures ∙ (both_plain c.args.self.now plain).1
