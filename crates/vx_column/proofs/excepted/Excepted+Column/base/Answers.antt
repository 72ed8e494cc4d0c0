use Rattle.std.proofs.Common.{ap, sym, subst, ◌∙◌}
use Rattle.vx_column.specs.Columns.{IsSound, type_of, len_of, is_plain}
use Rattle.vx_column.proofs.Layers.{base_held, type_excepted, both_plain}
use Rattle.vx_column.proofs.Excepts.{len_excepted}
use Rattle.vx_column.proofs.excepted.Excepted+Column.base.Goals as goal

pub returns-clause-sound : goal.returns-clause-sound
returns-clause-sound c = subst IsSound (sym c.get.ensures) (base_held c.args.self.now c.requires)

pub returns-clause-len : goal.returns-clause-len
returns-clause-len c = ap len_of c.get.ensures ∙ sym (len_excepted c.args.self.now)

pub returns-clause-dtype : goal.returns-clause-dtype
returns-clause-dtype c = ap type_of c.get.ensures ∙ sym (type_excepted c.args.self.now)

pub returns-clause-plain : goal.returns-clause-plain
returns-clause-plain c plain = ap is_plain c.get.ensures ∙ (both_plain c.args.self.now plain).0
