use Rattle.std.proofs.Common.{ap, sym, subst, ◌∙◌, ◌≡◌}
use Rattle.std.proofs.lemmas.Result.{IfOk-weaker}
use Rattle.vx_column.specs.Columns.{flat_of, IsSound}
use Rattle.vx_column.specs.declared.chunked.Chunked.{Chunked}
use Rattle.vx_column.specs.declared.column.Column.{Column}
use Rattle.vx_column.specs.declared.column.Column.TheVariants as column
use Rattle.vx_pairs.proofs.zipped.in_chunks.Goals as goal

pub returns-in-Chunked-clause-ok : goal.returns-in-Chunked-clause-ok
returns-in-Chunked-clause-ok c =
    let array = c.in-Chunked.array in
    IfOk-weaker c.share.result (λ (a : Chunked Column). a ≡ array) (λ (a : Chunked Column). flat_of (column.Chunked a) ≡ flat_of c.args.column.now)
    (λ a e. ap (λ (b : Chunked Column). flat_of (column.Chunked b)) e ∙ ap flat_of (sym c.in-Chunked.is)) c.share.ensures.ok

pub returns-in-Chunked-clause-sound : goal.returns-in-Chunked-clause-sound
returns-in-Chunked-clause-sound c =
    let array = c.in-Chunked.array in
    IfOk-weaker c.share.result (λ (a : Chunked Column). a ≡ array) (λ (a : Chunked Column). IsSound (column.Chunked a))
    (λ a e. subst (λ (b : Chunked Column). IsSound (column.Chunked b)) (sym e) (subst IsSound c.in-Chunked.is c.requires)) c.share.ensures.ok
