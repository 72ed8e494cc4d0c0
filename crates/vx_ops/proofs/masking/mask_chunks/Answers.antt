use Rattle.std.proofs.Common.{◌≡◌, ap, sym, subst, ◌∙◌, arith}
use Rattle.std.specs.List.{All}
use Rattle.std.proofs.lemmas.Result.{IfOk-weaker}
use Rattle.vx_rows.specs.declared.dtype.DType.{DType}
use Rattle.vx_base.specs.Column.{flat}
use Rattle.vx_bulk.specs.Selections.{masked}
use Rattle.vx_bulk.specs.Types.{nullable}
use Rattle.vx_column.specs.Columns.{flat_of, rows_of, type_of, IsOf}
use Rattle.vx_column.specs.declared.column.Column.TheVariants as column
use Rattle.vx_column.proofs.Layers.{type_chunked}
use Rattle.vx_ops.specs.Chunks.{rows_in}
use Rattle.vx_ops.proofs.Gains.{all_sound, all_typed, few_rows, made_flat}
use Rattle.vx_ops.proofs.Masks.{masked_long}
use Rattle.vx_ops.proofs.masking.mask_chunks.Goals as goal

pub chunked-requires-clause-sound : goal.chunked-requires-clause-sound
chunked-requires-clause-sound g c =
    let self = column.Chunked c.args.array.now in
    all_sound (nullable (type_of self)) (masked (rows_of self) c.args.keep.now) c.in_ok-chunks.chunks.items c.in_ok-chunks.ensures.ok

pub chunked-requires-clause-types : goal.chunked-requires-clause-types
chunked-requires-clause-types g c =
    let self = column.Chunked c.args.array.now in
    let same = c.in_ok-dtype.ensures.ok ∙ ap nullable (c.dtype.ensures ∙ sym (type_chunked c.args.array.now)) in
    subst (λ (t : DType). All (IsOf t) c.in_ok-chunks.chunks.items) (sym same)
    (all_typed (nullable (type_of self)) (masked (rows_of self) c.args.keep.now) c.in_ok-chunks.chunks.items c.in_ok-chunks.ensures.ok)

pub chunked-requires-clause-fits : goal.chunked-requires-clause-fits
chunked-requires-clause-fits g c =
    let self = column.Chunked c.args.array.now in
    let long = masked_long (rows_of self) c.args.keep.now (omega (arith, c.requires.long)) in
    few_rows c.args.array.now (nullable (type_of self)) (masked (rows_of self) c.args.keep.now) c.in_ok-chunks.chunks.items c.requires.sound long c.in_ok-chunks.ensures.ok

pub returns-clause-ok : goal.returns-clause-ok
returns-clause-ok g c =
    let self = column.Chunked c.args.array.now in
    let t = nullable (type_of self) in
    let rows = masked (rows_of self) c.args.keep.now in
    let dtype = c.in_ok-dtype.dtype in
    let same = c.in_ok-dtype.ensures.ok ∙ ap nullable (c.dtype.ensures ∙ sym (type_chunked c.args.array.now)) in
    IfOk-weaker c.chunked.result (λ x. flat_of x ≡ flat dtype (rows_in c.in_ok-chunks.chunks.items)) (λ x. flat_of x ≡ flat t rows)
    (λ x is. made_flat t dtype rows c.in_ok-chunks.chunks.items x c.in_ok-chunks.ensures.ok same is) c.chunked.ensures.ok
