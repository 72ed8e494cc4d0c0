-- What columns of chunks and of lanes mean, by their children.
use Rattle.std.proofs.Common.{◌≡◌, ◌+◌, List, [], ◌∷◌, map, length, refl, sym, ◌∙◌, ap, subst, length-append}
use Rattle.vx_rows.specs.declared.dtype.DType.{DType}
use Rattle.vx_lanes.specs.Layouts.{overlaid}
use Rattle.vx_lanes.proofs.Columns.{overlaid_length}
use Rattle.vx_chunks.specs.Bounds.{total}
use Rattle.vx_job.specs.Rows.{Rows, joined}
use Rattle.vx_column.specs.Columns.{type_of, type_step, rows_of, rows_step, len_of, AreChunks, AreLanes, IsSound, IsSoundLayer, chunks_of, inner_of, lanes_of}
use Rattle.vx_column.specs.declared.chunked.Chunked.{Chunked}
use Rattle.vx_column.specs.declared.patched.Patched.{Patched}
use Rattle.vx_column.specs.declared.column.Column.{Column}
use Rattle.vx_column.specs.declared.column.Column.TheOpen.{Column-F}
use Rattle.vx_column.specs.declared.column.Column.TheVariants.{rolls-Chunked, rolls-Patched, outs-Chunked, outs-Patched}
use Rattle.vx_column.specs.declared.column.Column.TheVariants as column
use Rattle.vx_column.specs.declared.column.Column.TheFolds.{every_here-Column, fold-roll-Column}

pub rows_chunked : (c : Chunked Column) → rows_of (column.Chunked c) ≡ joined (map rows_of (chunks_of c))
rows_chunked c = ap rows_of (sym (rolls-Chunked c)) ∙ fold-roll-Column Rows rows_step (Column-F.Chunked c)

pub type_chunked : (c : Chunked Column) → type_of (column.Chunked c) ≡ c.dtype
type_chunked c = ap type_of (sym (rolls-Chunked c)) ∙ fold-roll-Column DType type_step (Column-F.Chunked c)

pub chunks_here : (c : Chunked Column) → IsSound (column.Chunked c) → AreChunks c
chunks_here c s =
    let layer : IsSoundLayer (Column-F.Chunked c) = subst IsSoundLayer (outs-Chunked c) (every_here-Column IsSoundLayer (column.Chunked c) s) in
    layer.0

joined_length : (columns : List Column) → length (joined (map rows_of columns)) ≡ total (map len_of columns)
joined_length [] = refl
joined_length (column ∷ columns) = length-append (rows_of column) (joined (map rows_of columns)) ∙ ap (λ n. len_of column + n) (joined_length columns)

pub len_chunked : (c : Chunked Column) → len_of (column.Chunked c) ≡ total (map len_of (chunks_of c))
len_chunked c = ap length (rows_chunked c) ∙ joined_length (chunks_of c)

pub rows_patched : (p : Patched Column) → rows_of (column.Patched p) ≡ overlaid (lanes_of p) (rows_of (inner_of p))
rows_patched p = ap rows_of (sym (rolls-Patched p)) ∙ fold-roll-Column Rows rows_step (Column-F.Patched p)

pub type_patched : (p : Patched Column) → type_of (column.Patched p) ≡ type_of (inner_of p)
type_patched p = ap type_of (sym (rolls-Patched p)) ∙ fold-roll-Column DType type_step (Column-F.Patched p)

pub lanes_here : (p : Patched Column) → IsSound (column.Patched p) → AreLanes p
lanes_here p s =
    let layer : IsSoundLayer (Column-F.Patched p) = subst IsSoundLayer (outs-Patched p) (every_here-Column IsSoundLayer (column.Patched p) s) in
    layer.0

pub len_patched : (p : Patched Column) → len_of (column.Patched p) ≡ len_of (inner_of p)
len_patched p = ap length (rows_patched p) ∙ overlaid_length (lanes_of p) (rows_of (inner_of p))
