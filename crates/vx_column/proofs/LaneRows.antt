-- Columns with exceptions by lane: their rows, reads and cuts.
use Rattle.std.proofs.Common.{◌≡◌, ℕ, ◌+◌, ◌-◌, ◌*◌, ◌≤◌, ◌<◌, length, get_or, Option, Some, None, inl, inr, true, false, refl, sym, ◌∙◌, ap, subst, arith}
use Rattle.std.proofs.Math.Nat.{mul-le-mul, le_refl}
use Rattle.std.specs.Option.{is_some}
use Rattle.std.specs.List.{slice_range}
use Rattle.vx_rows.specs.declared.value.Value.{Value}
use Rattle.vx_base.specs.Ranges.{ends_cut}
use Rattle.vx_lanes.specs.declared.layout.Layout.{Layout}
use Rattle.vx_lanes.specs.Layouts.{IsLayout, exceptions, exception_of, value_of, overlaid, layout_part, layout_slice, layout_chunks, chunk_row}
use Rattle.vx_lanes.proofs.Columns.{overlaid_length, overlaid_nothing, overlaid_kept, overlaid_replaced, overlaid_some, exception_inside, slice_lanes, slice_len as layout_len, slice_exceptions, slice_offsets, overlaid_slice, chunks_lanes, chunks_exceptions, chunks_offsets, chunks_len, overlaid_chunks}
use Rattle.vx_lanes.proofs.Slices.{slice_sound, none_sound, chunks_some, chunks_none}
use Rattle.std.proofs.lemmas.Bool.{cases_lt, false≢true}
use Rattle.vx_job.specs.Kinds.{AreLaneKinds}
use Rattle.vx_column.specs.Columns.{rows_of, type_of, len_of, point_cost, cut_cost, lane_cost, lane_entries, first_covered, end_covered, is_plain, IsSound, IsSliceOf}
use Rattle.vx_job.specs.Rows.{Rows, lane_reads}
use Rattle.vx_column.specs.declared.patched.Patched.{Patched}
use Rattle.vx_column.specs.declared.column.Column.{Column}
use Rattle.vx_column.specs.declared.column.Column.TheVariants as column
use Rattle.vx_column.proofs.Layers.{rows_patched, type_patched, point_patched, cut_patched, lane_patched, plain_patched, lanes_here}
use Rattle.vx_column.proofs.Excepts.{slice_len}

pub len_patched : (p : Patched Column) → len_of (column.Patched p) ≡ len_of p.inner
len_patched p = ap length (rows_patched p) ∙ overlaid_length p.lanes (rows_of p.inner)

pub layout_long : (p : Patched Column) → IsSound (column.Patched p) → p.lanes.len ≡ len_of (column.Patched p)
layout_long p s = (lanes_here p s).as_long ∙ sym (len_patched p)

-- ---- reads

pub row_null : (p : Patched Column) (at : ℕ) → get_or (rows_of p.inner) at None ≡ None → get_or (rows_of (column.Patched p)) at None ≡ None
row_null p at e = ap (λ (rs : Rows). get_or rs at None) (rows_patched p) ∙ overlaid_nothing p.lanes (rows_of p.inner) at e

pub row_kept : (p : Patched Column) (at : ℕ) (row : Option Value) → get_or (rows_of p.inner) at None ≡ row → exception_of p.lanes at ≡ None → get_or (rows_of (column.Patched p)) at None ≡ row
row_kept p at None e f = row_null p at e
row_kept p at (Some v) e f = ap (λ (rs : Rows). get_or rs at None) (rows_patched p) ∙ overlaid_kept p.lanes (rows_of p.inner) at v e f

pub row_absent : (p : Patched Column) (at : ℕ) (row : Option Value) → get_or (rows_of p.inner) at None ≡ row → is_some row ≡ false → get_or (rows_of (column.Patched p)) at None ≡ row
row_absent p at None e none = row_null p at e
row_absent p at (Some v) e none = absurd (false≢true (sym none))

pub row_replaced : (p : Patched Column) (at k : ℕ) (row : Option Value) → get_or (rows_of p.inner) at None ≡ row → is_some row ≡ true → exception_of p.lanes at ≡ Some k →
    get_or (rows_of (column.Patched p)) at None ≡ value_of p.lanes k
row_replaced p at k None e some f = absurd (false≢true some)
row_replaced p at k (Some v) e some f = ap (λ (rs : Rows). get_or rs at None) (rows_patched p) ∙ overlaid_replaced p.lanes (rows_of p.inner) at v k e f

pub value_stands : (p : Patched Column) (at k : ℕ) → IsSound (column.Patched p) → exception_of p.lanes at ≡ Some k → k < length p.lanes.patch_values.rows
value_stands p at k s f = omega (arith, exception_inside p.lanes at k f, (lanes_here p s).sound.paired)

pub row_some : (p : Patched Column) (at : ℕ) → IsSound (column.Patched p) → is_some (get_or (rows_of (column.Patched p)) at None) ≡ is_some (get_or (rows_of p.inner) at None)
row_some p at s = ap (λ (rs : Rows). is_some (get_or rs at None)) (rows_patched p) ∙ overlaid_some p.lanes (rows_of p.inner) at (lanes_here p s).sound

-- ---- cuts

-- a layout over a cut of the inner column
pub record IsLaneCut (l part : Layout) (start end : ℕ) : Type 0 where
  pub sound : IsLayout part
  pub lanes : part.n_lanes ≡ l.n_lanes
  pub long : part.len ≡ end - start
  pub offsets : length part.lane_offsets.rows ≤ length l.lane_offsets.rows
  pub entries : exceptions part ≡ exceptions l
  pub values : part.patch_values ≡ l.patch_values
  pub means : (rows : Rows) → length rows ≡ l.len → overlaid part (slice_range rows start end) ≡ slice_range (overlaid l rows) start end

slice_values : (l : Layout) (start end : ℕ) → (layout_slice l start end).patch_values ≡ l.patch_values
unfolding layout_part
slice_values l start end = refl

none_values : (l : Layout) → (layout_part l 0 0 0 1).patch_values ≡ l.patch_values
unfolding layout_part
none_values l = refl

pub lanes_slice : (l : Layout) (start end : ℕ) → IsLayout l → start ≤ end → end ≤ l.len → IsLaneCut l (layout_slice l start end) start end
lanes_slice l start end s h k = record {
  sound = slice_sound l start end s h k;
  lanes = slice_lanes l start end;
  long = layout_len l start end;
  offsets = slice_offsets l start end s h k;
  entries = slice_exceptions l start end;
  values = slice_values l start end;
  means = λ rows long. overlaid_slice l rows start end s long h (omega (arith, long));
}

-- a fact on the layout of chunks, by one on a slice and one on the layout of no row
by_chunks : (P : Layout → Type 0) (l : Layout) (start end : ℕ) → start ≤ end → P (layout_slice l (chunk_row l start) (chunk_row l end)) → P (layout_part l 0 0 0 1) → P (layout_chunks l start end)
by_chunks P l start end o some none = elim (cases_lt start end) as (λ _. P (layout_chunks l start end)) [
  | inl less ↦ rw (chunks_some l start end less) some
  | inr more ↦ let same : start ≡ end = omega arith in rw (chunks_none l start end same) none
]

pub lanes_chunks : (l : Layout) (start end : ℕ) → IsLayout l → start ≤ end → IsLaneCut l (layout_chunks l start end) (first_covered l start end) (end_covered l start end)
lanes_chunks l start end s h = record {
  sound = by_chunks IsLayout l start end h (slice_sound l (chunk_row l start) (chunk_row l end) s (omega arith) (omega arith)) (none_sound l s);
  lanes = chunks_lanes l start end h;
  long = chunks_len l start end h;
  offsets = chunks_offsets l start end s h;
  entries = chunks_exceptions l start end h;
  values = by_chunks (λ (m : Layout). m.patch_values ≡ l.patch_values) l start end h (slice_values l (chunk_row l start) (chunk_row l end)) (none_values l);
  means = λ rows long. overlaid_chunks l rows start end (first_covered l start end) (end_covered l start end) s long h refl refl;
}

pub cut_kinds : (p : Patched Column) (part : Layout) (start end : ℕ) → IsSound (column.Patched p) → start ≤ end → end ≤ len_of (column.Patched p) → IsLaneCut p.lanes part start end →
    (inner : Column) → IsSliceOf p.inner inner start end → AreLaneKinds part (type_of inner) (len_of inner)
cut_kinds p part start end s h k lanes inner i =
    let here = lanes_here p s in
    let within : end ≤ len_of p.inner = omega (arith, len_patched p) in
    record {
      integers = rw i.dtype here.integers;
      sound = lanes.sound;
      as_long = lanes.long ∙ sym (slice_len p.inner inner start end i h within);
      alike = rw (i.dtype, lanes.values) here.alike;
    }

pub cut_lanes : (p q : Patched Column) (part : Layout) (start end : ℕ) → IsSound (column.Patched p) → IsLaneCut p.lanes part start end →
    (inner : Column) → IsSliceOf p.inner inner start end → q.inner ≡ inner → q.lanes ≡ part → IsSound (column.Patched q) → IsSliceOf (column.Patched p) (column.Patched q) start end
cut_lanes p q part start end s lanes inner i ei el sound =
    let here = lanes_here p s in
    let reads : lane_reads q.lanes.n_lanes ≡ lane_reads p.lanes.n_lanes = ap lane_reads (ap (λ (l : Layout). l.n_lanes) el ∙ lanes.lanes) in
    let entries : lane_entries q.lanes ≤ lane_entries p.lanes = omega (arith, ap lane_entries el, lanes.offsets, lanes.entries) in
    record {
      sound = sound;
      dtype = type_patched q ∙ ap type_of ei ∙ i.dtype ∙ sym (type_patched p);
      rows = rows_patched q ∙ ap (λ (l : Layout). overlaid l (rows_of q.inner)) el ∙ ap (λ (c : Column). overlaid part (rows_of c)) ei ∙ ap (overlaid part) i.rows
          ∙ lanes.means (rows_of p.inner) (sym here.as_long) ∙ ap (λ (rs : Rows). slice_range rs start end) (sym (rows_patched p));
      point = omega (arith, point_patched q, point_patched p, reads, ap point_cost ei, i.point);
      cut = omega (arith, cut_patched q, cut_patched p, ap cut_cost ei, i.cut);
      lanes = omega (arith, lane_patched q, lane_patched p, entries, ap lane_cost ei, i.lanes);
      plain = λ all. plain_patched q ∙ ap is_plain ei ∙ i.plain (sym (plain_patched p) ∙ all);
    }

-- both ends of the inner column at most are cut
pub rise_most : (p : Patched Column) (inner : Column) (cuts old new : ℕ) → inner ≡ p.inner → cuts ≤ 2 → new ≤ old + cuts * cut_cost inner → new ≤ old + 2 * cut_cost (column.Patched p)
rise_most p inner cuts old new e most h =
    let same : cut_cost inner ≡ cut_cost (column.Patched p) = ap cut_cost e ∙ sym (cut_patched p) in
    let rise : new ≤ old + cuts * cut_cost (column.Patched p) = subst (λ n. new ≤ old + cuts * n) same h in
    omega (arith, rise, mul-le-mul most (le_refl (cut_cost (column.Patched p))))

-- a cut of the inner column costs what a cut costs
pub rise_inner : (p : Patched Column) (inner : Column) (start end old new : ℕ) → inner ≡ p.inner → new ≤ old + ends_cut start end (len_of inner) * cut_cost inner →
    new ≤ old + ends_cut start end (len_of (column.Patched p)) * cut_cost (column.Patched p)
rise_inner p inner start end old new e h =
    let long : len_of inner ≡ len_of (column.Patched p) = ap len_of e ∙ sym (len_patched p) in
    let same : cut_cost inner ≡ cut_cost (column.Patched p) = ap cut_cost e ∙ sym (cut_patched p) in
    subst (λ n. new ≤ old + ends_cut start end (len_of (column.Patched p)) * n) same (subst (λ n. new ≤ old + ends_cut start end n * cut_cost inner) long h)
