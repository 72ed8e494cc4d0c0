use Rattle.std.proofs.lemmas.Result.{IfOk-weaker}
use Rattle.std.proofs.Common.{subst}
use Rattle.vx_patches.specs.Places.{Index}
use Rattle.vx_patches.specs.Slices.{IsKept}
use Rattle.vx_column.specs.Excepts.{IsKeptOf}
use Rattle.vx_column.proofs.Excepts.{kept_of}
use Rattle.vx_column.proofs.excepted.Excepted+Column.kept.Goals as goal

pub returns-clause-ok : goal.returns-clause-ok
returns-clause-ok g c =
    let self = c.args.self.now in
    IfOk-weaker c.slice.result (IsKept c.index.result.now c.args.start c.args.end) (IsKeptOf self c.args.start c.args.end)
    (λ kept k. kept_of self c.args.start c.args.end kept c.requires.sound (subst (λ (i : Index). IsKept i c.args.start c.args.end kept) c.index.ensures.value k)) c.slice.ensures.ok
