-- Interleaved columns: their rows, reads and cuts.
use Rattle.std.proofs.Common.{◌≡◌, ℕ, ◌-◌, ◌<◌, List, [], take, drop, map, length, get_or, None, sym, ◌∙◌, ap, arith}
use Rattle.std.specs.List.{slice_range, All}
use Rattle.std.proofs.lemmas.List.{take-map, drop-map, length-map, get_or-map}
use Rattle.std.proofs.lemmas.Slice.Zip.{get_or-zip}
use Rattle.vx_base.proofs.CheckLemmas.{length_numbers}
use Rattle.vx_interleave.specs.Selections.{Selection, IsSelection, arrays_of, rows_of as row_numbers, pairs_of, len_of as count_of, array_of, row_of, window_of}
use Rattle.vx_interleave.proofs.Columns.{pairs_window, window_within, window_sound, length_pairs, array_within, row_within}
use Rattle.vx_chunks.specs.Bounds.{total}
use Rattle.vx_column.specs.Columns.{all_true, selector_slots, rows_of, len_of, point_cost, lane_cost, is_plain, IsSound, IsSliceOf}
use Rattle.vx_job.specs.Rows.{Rows, interleaved, greatest}
use Rattle.vx_column.specs.declared.interleave.Interleave.{Interleave}
use Rattle.vx_column.specs.declared.column.Column.{Column}
use Rattle.vx_column.specs.declared.column.Column.TheVariants as column
use Rattle.vx_column.proofs.Layers.{rows_interleave, type_interleave, point_interleave, cut_interleave, lane_interleave, plain_interleave, interleaved_here, interleaved_held, interleaved_made}

pub len_interleaved : (i : Interleave Column) → IsSelection i.selectors → len_of (column.Interleave i) ≡ count_of i.selectors
len_interleaved i k = ap length (rows_interleave i) ∙ length-map (pairs_of i.selectors) _ ∙ length_pairs i.selectors k

-- the row that the numbers at a place name
pub row_named : (i : Interleave Column) (at : ℕ) → IsSelection i.selectors → at < count_of i.selectors →
    get_or (rows_of (column.Interleave i)) at None ≡ get_or (get_or (map rows_of i.values) (array_of i.selectors at) []) (row_of i.selectors at) None
row_named i at k h =
    let a : at < length (arrays_of i.selectors) = omega (arith, length_numbers i.selectors.array_indices.rows) in
    let b : at < length (row_numbers i.selectors) = omega (arith, length_numbers i.selectors.row_indices.rows, k.paired) in
    ap (λ (rs : Rows). get_or rs at None) (rows_interleave i) ∙ get_or-map (λ (p : ℕ × ℕ). get_or (get_or (map rows_of i.values) p.0 []) p.1 None) (pairs_of i.selectors) at (0, 0) None (omega (arith, length_pairs i.selectors k))
    ∙ ap (λ (p : ℕ × ℕ). get_or (get_or (map rows_of i.values) p.0 []) p.1 None) (get_or-zip (arrays_of i.selectors) (row_numbers i.selectors) at (0, 0) a b)

pub cut_interleaved : (i j : Interleave Column) (start end : ℕ) → IsSound (column.Interleave i) → j.dtype ≡ i.dtype → j.selectors ≡ window_of i.selectors start end → j.values ≡ i.values →
    j.slots ≡ map column.Flat (selector_slots j.selectors) → All IsSound j.slots → IsSliceOf (column.Interleave i) (column.Interleave j) start end
cut_interleaved i j start end s et es ev el held =
    let here = interleaved_here i s in
    let row : ℕ × ℕ → _ = λ (p : ℕ × ℕ). get_or (get_or (map rows_of i.values) p.0 []) p.1 None in
    record {
      sound = interleaved_made j (record {
        kind = rw ev here.kind;
        some = rw ev here.some;
        sound = rw es (window_sound i.selectors start end here.sound);
        alike = rw ev here.alike;
        joined = rw (et, ev) here.joined;
        within = rw (es, ev) (window_within i.selectors (map len_of i.values) start end here.within);
      }) el (rw ev (interleaved_held i s)) held;
      dtype = type_interleave j ∙ et ∙ sym (type_interleave i);
      rows = rows_interleave j ∙ ap (λ (xs : List Column). interleaved (map rows_of xs) (pairs_of j.selectors)) ev ∙ ap (λ (s : Selection). interleaved (map rows_of i.values) (pairs_of s)) es
          ∙ ap (interleaved (map rows_of i.values)) (pairs_window i.selectors start end)
          ∙ sym (ap (take (end - start)) (drop-map row start (pairs_of i.selectors)) ∙ take-map row (end - start) (drop start (pairs_of i.selectors)))
          ∙ ap (λ (rs : Rows). slice_range rs start end) (sym (rows_interleave i));
      point = omega (arith, point_interleave j, point_interleave i, ap (λ (xs : List Column). greatest (map point_cost xs)) ev);
      cut = omega (arith, cut_interleave j);
      lanes = omega (arith, lane_interleave j, lane_interleave i, ap (λ (xs : List Column). total (map lane_cost xs)) ev);
      plain = λ all. plain_interleave j ∙ ap (λ (xs : List Column). all_true (map is_plain xs)) ev ∙ sym (plain_interleave i) ∙ all;
    }

-- a value that is named is there
pub value_named : (i : Interleave Column) (at : ℕ) → IsSound (column.Interleave i) → at < len_of (column.Interleave i) →
    (at < count_of i.selectors) × (array_of i.selectors at < length i.values) × (row_of i.selectors at < get_or (map len_of i.values) (array_of i.selectors at) 0)
value_named i at s h =
    let here = interleaved_here i s in
    let inside : at < count_of i.selectors = omega (arith, len_interleaved i here.sound) in (
      inside,
      omega (arith, array_within i.selectors (map len_of i.values) at here.within inside, length-map i.values len_of),
      row_within i.selectors (map len_of i.values) at here.within inside,
    )
