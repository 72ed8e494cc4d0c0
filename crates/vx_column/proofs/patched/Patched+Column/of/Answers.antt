use Rattle.std.proofs.Common.{sym, subst}
use Rattle.vx_job.specs.Kinds.{AreLaneKinds}
use Rattle.vx_column.specs.Columns.{IsSound, type_of, len_of}
use Rattle.vx_column.proofs.Layers.{patched_made}
use Rattle.vx_column.proofs.patched.Patched+Column.of.Goals as goal

pub returns-clause-sound : goal.returns-clause-sound
returns-clause-sound c =
    let e = c.in_ok-inner.ensures in
    let fits = subst (λ i. AreLaneKinds c.args.lanes (type_of i) (len_of i)) (sym e) c.requires.kinds in
    patched_made _ fits c.in_ok-slots.ensures.ok (subst IsSound (sym e) c.requires.inner) c.in_ok-slots.ensures.sound
