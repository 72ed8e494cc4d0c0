-- Which row of a part each row of an assembled column is.
use Rattle.std.proofs.Common.{arith, sym, ◌∙◌, ap, subst, ◌≡◌, ◌<◌, ◌+◌, ℕ, List, [], map, length, get_or, take, None}
use Rattle.std.proofs.lemmas.List.{length-map, get_or-map, get_or_default}
use Rattle.vx_chunks.specs.Bounds.{total}
use Rattle.vx_column.specs.Columns.{rows_of, len_of}
use Rattle.vx_job.specs.Rows.{Rows}
use Rattle.vx_column.specs.declared.column.Column.{Column}
use Rattle.vx_column.specs.declared.chunked.Chunked.{Chunked}
use Rattle.vx_column.specs.declared.interleave.Interleave.{Interleave}
use Rattle.vx_column.specs.declared.column.Column.TheVariants as column
use Rattle.vx_column.proofs.Cuts.{row_in, len_at}
use Rattle.vx_select.specs.Spots.{IsThere, IsSpotOf, Spot}

-- a row of one of several columns
pub there_at : (xs : List Column) (d : Column) (s : Spot) → s.0 < length xs → s.1 < get_or (map len_of xs) s.0 0 → IsThere (map rows_of xs) s
there_at xs d s h k =
    let x = get_or xs s.0 d in
    let value : get_or (map rows_of xs) s.0 [] ≡ rows_of x = get_or-map rows_of xs s.0 d [] h in
    let long : get_or (map len_of xs) s.0 0 ≡ len_of x = get_or-map len_of xs s.0 d 0 h in
    (omega (arith, h, length-map xs rows_of), subst (λ (r : Rows). s.1 < length r) (sym value) (omega (arith, k, long)))

pub chunk_named : (c : Chunked Column) (s : Spot) (place : ℕ) → s.0 < length c.chunks → s.1 < get_or (map len_of c.chunks) s.0 0 → total (take s.0 (map len_of c.chunks)) + s.1 ≡ place →
    IsSpotOf (map rows_of c.chunks) (rows_of (column.Chunked c)) place s
chunk_named c s place h k e =
    let xs = c.chunks in
    let d = column.Chunked c in
    let x = get_or xs s.0 d in
    let at : x ≡ get_or xs s.0 x = get_or_default xs s.0 d x h in
    let value : get_or (map rows_of xs) s.0 [] ≡ rows_of x = get_or-map rows_of xs s.0 d [] h in
    let long : get_or (map len_of xs) s.0 0 ≡ len_of x = len_at xs s.0 x h at in
    record {
      there = there_at xs d s h k;
      row = ap (λ (r : Rows). get_or r s.1 None) value ∙ sym (row_in c s.0 s.1 place x at h (omega (arith, k, long)) e);
    }

pub value_named : (i : Interleave Column) (s : Spot) (place : ℕ) → s.0 < length i.values → s.1 < get_or (map len_of i.values) s.0 0 →
    get_or (rows_of (column.Interleave i)) place None ≡ get_or (get_or (map rows_of i.values) s.0 []) s.1 None → IsSpotOf (map rows_of i.values) (rows_of (column.Interleave i)) place s
value_named i s place h k e = record { there = there_at i.values (column.Interleave i) s h k; row = sym e }
