use Rattle.std.proofs.Common.{List, ◌∙◌, map, sym, subst}
use Rattle.std.specs.List.{All}
use Rattle.vx_job.specs.Kinds.{AreInterleaveKinds}
use Rattle.vx_column.specs.Columns.{IsSound, type_of, len_of}
use Rattle.vx_column.specs.declared.column.Column.{Column}
use Rattle.vx_column.proofs.Layers.{interleaved_made}
use Rattle.vx_column.proofs.interleave.Interleave+Column.of.Goals as goal

pub returns-clause-sound : goal.returns-clause-sound
returns-clause-sound c =
    let e = c.in_ok-values.ensures ∙ c.from_vec.ensures in
    let fits = subst (λ (xs : List Column). AreInterleaveKinds c.args.selectors c.args.dtype (map type_of xs) (map len_of xs)) (sym e) c.requires.kinds in
    interleaved_made _ fits c.in_ok-slots.ensures.ok (subst (All IsSound) (sym e) c.requires.sound) c.in_ok-slots.ensures.sound
