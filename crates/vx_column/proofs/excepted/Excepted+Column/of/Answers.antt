use Rattle.std.proofs.Common.{sym, subst}
use Rattle.vx_job.specs.Kinds.{AreExceptionKinds}
use Rattle.vx_column.specs.Columns.{IsSound, type_of, len_of}
use Rattle.vx_column.proofs.Layers.{excepted_made}
use Rattle.vx_column.proofs.excepted.Excepted+Column.of.Goals as goal

pub returns-clause-sound : goal.returns-clause-sound
returns-clause-sound c =
    let eb = c.in_ok-base.ensures in
    let ev = c.in_ok-values.ensures in
    let fits_base = subst (λ b. AreExceptionKinds c.args.index (type_of b) (len_of b) (type_of c.args.values) (len_of c.args.values)) (sym eb) c.requires.kinds in
    let fits = subst (λ v. AreExceptionKinds c.args.index (type_of c.in_ok-base.base) (len_of c.in_ok-base.base) (type_of v) (len_of v)) (sym ev) fits_base in
    excepted_made _ fits c.in_ok-slots.ensures.ok (subst IsSound (sym eb) c.requires.base) (subst IsSound (sym ev) c.requires.values) c.in_ok-slots.ensures.sound
