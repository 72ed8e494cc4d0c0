use Rattle.std.proofs.Common.{◌≡◌, ap, sym, subst, ◌∙◌}
use Rattle.std.specs.List.{All}
use Rattle.std.proofs.lemmas.Result.{IfOk-weaker}
use Rattle.vx_rows.specs.declared.dtype.DType.{DType}
use Rattle.vx_base.specs.Column.{flat}
use Rattle.vx_scalars.specs.Elementwise.{compared, compared_type}
use Rattle.vx_scalars.proofs.Lists.{length_compared}
use Rattle.vx_column.specs.Columns.{flat_of, rows_of, type_of, IsOf}
use Rattle.vx_column.specs.declared.column.Column.TheVariants as column
use Rattle.vx_column.proofs.Layers.{type_chunked}
use Rattle.vx_ops.specs.Chunks.{rows_in}
use Rattle.vx_ops.proofs.Gains.{all_sound, all_typed, few_rows, made_flat}
use Rattle.vx_ops.proofs.comparing.compare_chunks.Goals as goal

pub chunked-requires-clause-sound : goal.chunked-requires-clause-sound
chunked-requires-clause-sound g c =
    let self = column.Chunked c.args.array.now in
    all_sound (compared_type (type_of self) c.args.value.now.dtype) (compared c.args.op c.args.value.now.row (rows_of self)) c.in_ok-chunks.chunks.items c.in_ok-chunks.ensures.ok

pub chunked-requires-clause-types : goal.chunked-requires-clause-types
chunked-requires-clause-types g c =
    let self = column.Chunked c.args.array.now in
    let s = c.args.value.now.dtype in
    let same = c.truth_type.ensures ∙ ap (λ (t : DType). compared_type t c.dtype-2.result.now) (c.dtype.ensures ∙ sym (type_chunked c.args.array.now)) ∙ ap (compared_type (type_of self)) c.dtype-2.ensures.dtype in
    subst (λ (t : DType). All (IsOf t) c.in_ok-chunks.chunks.items) (sym same)
    (all_typed (compared_type (type_of self) s) (compared c.args.op c.args.value.now.row (rows_of self)) c.in_ok-chunks.chunks.items c.in_ok-chunks.ensures.ok)

pub chunked-requires-clause-fits : goal.chunked-requires-clause-fits
chunked-requires-clause-fits g c =
    let self = column.Chunked c.args.array.now in
    few_rows c.args.array.now (compared_type (type_of self) c.args.value.now.dtype) (compared c.args.op c.args.value.now.row (rows_of self)) c.in_ok-chunks.chunks.items c.requires.sound
    (length_compared c.args.op c.args.value.now.row (rows_of self)) c.in_ok-chunks.ensures.ok

pub returns-clause-ok : goal.returns-clause-ok
returns-clause-ok g c =
    let self = column.Chunked c.args.array.now in
    let s = c.args.value.now.dtype in
    let rows = compared c.args.op c.args.value.now.row (rows_of self) in
    let same = c.truth_type.ensures ∙ ap (λ (t : DType). compared_type t c.dtype-2.result.now) (c.dtype.ensures ∙ sym (type_chunked c.args.array.now)) ∙ ap (compared_type (type_of self)) c.dtype-2.ensures.dtype in
    IfOk-weaker c.chunked.result (λ x. flat_of x ≡ flat c.truth_type.result (rows_in c.in_ok-chunks.chunks.items)) (λ x. flat_of x ≡ flat (compared_type (type_of self) s) rows)
    (λ x is. made_flat (compared_type (type_of self) s) c.truth_type.result rows c.in_ok-chunks.chunks.items x c.in_ok-chunks.ensures.ok same is) c.chunked.ensures.ok
