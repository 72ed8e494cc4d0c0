use Rattle.std.proofs.Common.{arith, ap, sym, subst, ◌∙◌, ◌≡◌, ◌++◌, ◌∷◌, [], List}
use Rattle.std.proofs.lemmas.Result.{IfOk-weaker, IfErr-weaker}
use Rattle.std.proofs.lemmas.List.Elements.{All-from_recursion}
use Rattle.std.specs.List.{All}
use Rattle.vx_rows.specs.declared.error.ColumnError.TheVariants.{OutOfMemory}
use Rattle.vx_column.specs.Columns.{flat_of, IsSound}
use Rattle.vx_column.specs.Chunks.{IsMadeOf, FirstChunkCause}
use Rattle.vx_column.specs.declared.chunked.Chunked.{Chunked}
use Rattle.vx_column.specs.declared.column.Column.{Column}
use Rattle.vx_column.specs.declared.column.Column.TheVariants as column
use Rattle.vx_pairs.proofs.Arrays.{one_is, only_memory_one}
use Rattle.vx_pairs.proofs.zipped.one_chunk.Goals as goal

pub try_from_chunks-requires : goal.try_from_chunks-requires
try_from_chunks-requires c =
    let x = c.args.column.now in
    let one = c.in_ok-push.ensures.items ∙ ap (λ (xs : List Column). xs ++ c.in_ok-share.field-0 ∷ []) c.new-chunks.ensures.items ∙ ap (λ (y : Column). y ∷ []) c.in_ok-share.ensures.ok in
    subst (All IsSound) (sym one) (All-from_recursion IsSound (x ∷ []) (c.requires, tt))

pub returns-clause-ok : goal.returns-clause-ok
returns-clause-ok c =
    let x = c.args.column.now in
    let one = c.in_ok-push.ensures.items ∙ ap (λ (xs : List Column). xs ++ c.in_ok-share.field-0 ∷ []) c.new-chunks.ensures.items ∙ ap (λ (y : Column). y ∷ []) c.in_ok-share.ensures.ok in
    IfOk-weaker c.try_from_chunks.result (IsMadeOf c.push.new.self.items) (λ (a : Chunked Column). flat_of (column.Chunked a) ≡ flat_of x)
    (λ a made. one_is x a (subst (λ (xs : List Column). IsMadeOf xs a) one made)) c.try_from_chunks.ensures.ok

pub returns-clause-err : goal.returns-clause-err
returns-clause-err c =
    let x = c.args.column.now in
    let one = c.in_ok-push.ensures.items ∙ ap (λ (xs : List Column). xs ++ c.in_ok-share.field-0 ∷ []) c.new-chunks.ensures.items ∙ ap (λ (y : Column). y ∷ []) c.in_ok-share.ensures.ok in
    IfErr-weaker c.try_from_chunks.result (FirstChunkCause c.push.new.self.items) (λ e. e ≡ OutOfMemory)
    (λ e why. only_memory_one x e (omega (arith, c.len.ensures)) (subst (λ (xs : List Column). FirstChunkCause xs e) one why)) c.try_from_chunks.ensures.err
