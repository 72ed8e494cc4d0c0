-- Parts that are opened.
use Rattle.std.proofs.Common.{◌≡◌, ℕ, suc, ◌+◌, ◌<◌, ◌^◌, List, [], ◌∷◌, ◌++◌, map, length, refl, sym, ◌∙◌, ap, subst, Option, None, IsTrue, true, replicate}
use Rattle.std.proofs.lemmas.Bool.{and_from}
use Rattle.std.specs.List.{All, AllByRecursion}
use Rattle.std.proofs.lemmas.List.Elements.{All-from_recursion, recursion_from_All}
use Rattle.vx_rows.specs.Fits.{row_fits}
use Rattle.vx_rows.specs.declared.dtype.DType.{DType}
use Rattle.vx_rows.specs.declared.value.Value.{Value}
use Rattle.vx_base.specs.Column.{Flat, flat}
use Rattle.vx_search.specs.Places.{search_bound}
use Rattle.vx_chunks.specs.Bounds.{total}
use Rattle.vx_patches.specs.Making.{made}
use Rattle.vx_patches.specs.Places.{Index}
use Rattle.vx_patches.specs.Search.{search_cost}
use Rattle.vx_patches.specs.Slices.{cut_cost as places_cut_cost}
use Rattle.vx_lanes.specs.Layouts.{layout, overlaid}
use Rattle.vx_lanes.specs.declared.layout.Layout.{Layout}
use Rattle.vx_interleave.specs.Selections.{Selection, selection, pairs_of}
use Rattle.vx_job.specs.Kinds.{interleaved_type}
use Rattle.vx_job.specs.Faults.{Fault, IsLanesFault, IsExceptionsFault, IsInterleaveFault}
use Rattle.vx_column.specs.Columns.{lane_entries, rows_of, type_of, len_of, flat_of, IsOf, IsSound, point_cost, cut_cost, lane_cost, is_plain, all_true, inner_of, lanes_of, base_of, values_of, index_of, interleaved_of, selectors_of}
use Rattle.vx_job.specs.Rows.{Rows, joined, excepted, interleaved, greatest, lane_reads}
use Rattle.vx_column.specs.declared.chunked.Chunked.{Chunked}
use Rattle.vx_column.specs.declared.patched.Patched.{Patched}
use Rattle.vx_column.specs.declared.excepted.Excepted.{Excepted}
use Rattle.vx_column.specs.declared.interleave.Interleave.{Interleave}
use Rattle.vx_column.specs.declared.column.Column.{Column}
use Rattle.vx_column.specs.declared.column.Column.TheVariants as column
use Rattle.vx_column.proofs.Layers.{interleaved_here}
use Rattle.vx_column.proofs.Layers as layer
use Rattle.vx_column.proofs.Cuts.{point_cost_is, cut_cost_is}
use Rattle.vx_job.specs.Parts.{part_type, part_rows, part_flat, part_len, part_point_cost, part_cut_cost, part_lane_cost, IsPartOf, IsClean}
use Rattle.vx_plan.specs.Opened.{IsOpened, AreOpened}
use Rattle.vx_job.specs.declared.part.Part.{Part}
use Rattle.vx_job.specs.declared.part.Part.TheVariants as part
use Rattle.vx_job.proofs.Parts.{clean_flat, clean_constant, clean_chunked, clean_lanes, clean_excepted, clean_interleaved}
use Rattle.vx_job.proofs.Parts as its

-- lists of parts and their columns
pub opened_push : (ps : List Part) (cs : List Column) (p : Part) (c : Column) → AreOpened ps cs → IsOpened p c → AreOpened (ps ++ p ∷ []) (cs ++ c ∷ [])
opened_push [] [] p c a o = (o, tt)
opened_push [] (d ∷ cs) p c a o = absurd a
opened_push (q ∷ ps) [] p c a o = absurd a
opened_push (q ∷ ps) (d ∷ cs) p c a o = (a.0, opened_push ps cs p c a.1 o)

-- a number or a fact that is the same of each part and its column
same_of : {A : Type 0} (f : Part → A) (g : Column → A) → ((p : Part) (c : Column) → IsOpened p c → g c ≡ f p) → (ps : List Part) (cs : List Column) → AreOpened ps cs → map g cs ≡ map f ps
same_of f g h [] [] a = refl
same_of f g h [] (c ∷ cs) a = absurd a
same_of f g h (p ∷ ps) [] a = absurd a
same_of f g h (p ∷ ps) (c ∷ cs) a = ap (λ x. x ∷ map g cs) (h p c a.0) ∙ ap (λ xs. f p ∷ xs) (same_of f g h ps cs a.1)

pub opened_length : (ps : List Part) (cs : List Column) → AreOpened ps cs → length cs ≡ length ps
opened_length [] [] a = refl
opened_length [] (c ∷ cs) a = absurd a
opened_length (p ∷ ps) [] a = absurd a
opened_length (p ∷ ps) (c ∷ cs) a = ap suc (opened_length ps cs a.1)

pub lens_same : (ps : List Part) (cs : List Column) → AreOpened ps cs → map len_of cs ≡ map part_len ps
lens_same = same_of part_len len_of (λ p c o. ap length o.rows)

pub types_same : (ps : List Part) (cs : List Column) → AreOpened ps cs → map type_of cs ≡ map part_type ps
types_same = same_of part_type type_of (λ p c o. o.dtype)

pub same_flat : (p : Part) (c : Column) → IsOpened p c → flat_of c ≡ part_flat p
same_flat p c o = λ i. flat (o.dtype i) (o.rows i)

pub flats_same : (ps : List Part) (cs : List Column) → AreOpened ps cs → map flat_of cs ≡ map part_flat ps
flats_same = same_of part_flat flat_of same_flat

rows_same : (ps : List Part) (cs : List Column) → AreOpened ps cs → map rows_of cs ≡ map part_rows ps
rows_same = same_of part_rows rows_of (λ p c o. o.rows)

points_same : (ps : List Part) (cs : List Column) → AreOpened ps cs → map point_cost cs ≡ map part_point_cost ps
points_same = same_of part_point_cost point_cost (λ p c o. o.point)

cuts_same : (ps : List Part) (cs : List Column) → AreOpened ps cs → map cut_cost cs ≡ map part_cut_cost ps
cuts_same = same_of part_cut_cost cut_cost (λ p c o. o.cut)

lanes_same : (ps : List Part) (cs : List Column) → AreOpened ps cs → map lane_cost cs ≡ map part_lane_cost ps
lanes_same = same_of part_lane_cost lane_cost (λ p c o. o.lanes)

pub parts_clean : (ps : List Part) (cs : List Column) → AreOpened ps cs → AllByRecursion IsClean ps
parts_clean [] [] a = tt
parts_clean [] (c ∷ cs) a = absurd a
parts_clean (p ∷ ps) [] a = absurd a
parts_clean (p ∷ ps) (c ∷ cs) a = (a.0.clean, parts_clean ps cs a.1)

columns_sound : (ps : List Part) (cs : List Column) → AreOpened ps cs → AllByRecursion IsSound cs
columns_sound [] [] a = tt
columns_sound [] (c ∷ cs) a = absurd a
columns_sound (p ∷ ps) [] a = absurd a
columns_sound (p ∷ ps) (c ∷ cs) a = (a.0.sound, columns_sound ps cs a.1)

pub all_sound : (ps : List Part) (cs : List Column) → AreOpened ps cs → All IsSound cs
all_sound ps cs a = All-from_recursion IsSound cs (columns_sound ps cs a)

all_plain : (ps : List Part) (cs : List Column) → AreOpened ps cs → all_true (map is_plain cs) ≡ true
all_plain [] [] a = refl
all_plain [] (c ∷ cs) a = absurd a
all_plain (p ∷ ps) [] a = absurd a
all_plain (p ∷ ps) (c ∷ cs) a = and_from (is_plain c) (all_true (map is_plain cs)) a.0.plain (all_plain ps cs a.1)

types_down : (t : DType) (ps : List Part) (cs : List Column) → AreOpened ps cs → AllByRecursion (IsOf t) cs → AllByRecursion (IsPartOf t) ps
types_down t [] [] a s = tt
types_down t [] (c ∷ cs) a s = absurd a
types_down t (p ∷ ps) [] a s = absurd a
types_down t (p ∷ ps) (c ∷ cs) a s = (sym a.0.dtype ∙ s.0, types_down t ps cs a.1 s.1)

pub types_up : (t : DType) (ps : List Part) (cs : List Column) → AreOpened ps cs → AllByRecursion (IsPartOf t) ps → AllByRecursion (IsOf t) cs
types_up t [] [] a s = tt
types_up t [] (c ∷ cs) a s = absurd a
types_up t (p ∷ ps) [] a s = absurd a
types_up t (p ∷ ps) (c ∷ cs) a s = (a.0.dtype ∙ s.0, types_up t ps cs a.1 s.1)

-- what is wrong over columns is wrong over their parts
pub lanes_down : (p : Part) (n o : ℕ) (lo is vs : Flat) (c : Column) (fault : Option Fault) → IsOpened p c → IsLanesFault (type_of c) (len_of c) n o lo is vs fault
    → IsLanesFault (part_type p) (part_len p) n o lo is vs fault
lanes_down p n o lo is vs c fault opened h =
    subst (λ t. IsLanesFault t (part_len p) n o lo is vs fault) opened.dtype (subst (λ m. IsLanesFault (type_of c) m n o lo is vs fault) (ap length opened.rows) h)

pub exceptions_down : (b : Part) (o : ℕ) (is : Flat) (v : Part) (co : Option Flat) (c d : Column) (fault : Option Fault) → IsOpened b c → IsOpened v d
    → IsExceptionsFault (type_of c) (len_of c) o is (type_of d) (len_of d) co fault → IsExceptionsFault (part_type b) (part_len b) o is (part_type v) (part_len v) co fault
exceptions_down b o is v co c d fault base values h =
    subst (λ t. IsExceptionsFault t (part_len b) o is (part_type v) (part_len v) co fault) base.dtype
    (subst (λ m. IsExceptionsFault (type_of c) m o is (part_type v) (part_len v) co fault) (ap length base.rows)
    (subst (λ t. IsExceptionsFault (type_of c) (len_of c) o is t (part_len v) co fault) values.dtype
    (subst (λ m. IsExceptionsFault (type_of c) (len_of c) o is (type_of d) m co fault) (ap length values.rows) h)))

pub interleaved_down : (ps : List Part) (ai ri : Flat) (cs : List Column) (fault : Option Fault) → AreOpened ps cs → IsInterleaveFault (map type_of cs) (map len_of cs) ai ri fault
    → IsInterleaveFault (map part_type ps) (map part_len ps) ai ri fault
interleaved_down ps ai ri cs fault o h =
    subst (λ ts. IsInterleaveFault ts (map part_len ps) ai ri fault) (types_same ps cs o) (subst (λ ns. IsInterleaveFault (map type_of cs) ns ai ri fault) (lens_same ps cs o) h)

-- the same of equal columns
pub lanes_told : (t : DType) (len n o : ℕ) (lo lo' is is' vs vs' : Flat) (fault : Option Fault) → lo' ≡ lo → is' ≡ is → vs' ≡ vs
    → IsLanesFault t len n o lo' is' vs' fault → IsLanesFault t len n o lo is vs fault
lanes_told t len n o lo lo' is is' vs vs' fault e f g h =
    subst (λ (x : Flat). IsLanesFault t len n o x is vs fault) e
    (subst (λ (x : Flat). IsLanesFault t len n o lo' x vs fault) f
    (subst (λ (x : Flat). IsLanesFault t len n o lo' is' x fault) g h))

pub exceptions_told : (t : DType) (len o : ℕ) (is is' : Flat) (v : DType) (count : ℕ) (co co' : Option Flat) (fault : Option Fault) → is' ≡ is → co' ≡ co
    → IsExceptionsFault t len o is' v count co' fault → IsExceptionsFault t len o is v count co fault
exceptions_told t len o is is' v count co co' fault e f h =
    subst (λ (x : Flat). IsExceptionsFault t len o x v count co fault) e
    (subst (λ (x : Option Flat). IsExceptionsFault t len o is' v count x fault) f h)

pub interleaved_told : (ts : List DType) (lens : List ℕ) (ai ai' ri ri' : Flat) (fault : Option Fault) → ai' ≡ ai → ri' ≡ ri
    → IsInterleaveFault ts lens ai' ri' fault → IsInterleaveFault ts lens ai ri fault
interleaved_told ts lens ai ai' ri ri' fault e f h =
    subst (λ (x : Flat). IsInterleaveFault ts lens x ri fault) e (subst (λ (x : Flat). IsInterleaveFault ts lens ai' x fault) f h)

pub fits_told : (t t' : DType) (r r' : Option Value) → t' ≡ t → r' ≡ r → IsTrue (row_fits t' r') → IsTrue (row_fits t r)
fits_told t t' r r' e f h = subst (λ (x : DType). IsTrue (row_fits x r)) e (subst (λ (x : Option Value). IsTrue (row_fits t' x)) f h)

-- opened parts
pub opened_flat : (c : Flat) (x : Column) → x ≡ column.Flat c → IsSound x → IsOpened (part.Flat c) x
opened_flat c x is s = subst (IsOpened (part.Flat c)) (sym is) (record {
  clean = clean_flat c;
  sound = subst IsSound is s;
  dtype = layer.type_flat c ∙ sym (its.type_flat c);
  rows = layer.rows_flat c ∙ sym (its.rows_flat c);
  point = layer.point_flat c ∙ sym (its.point_flat c);
  cut = layer.cut_flat c ∙ sym (its.cut_flat c);
  lanes = layer.lane_flat c ∙ sym (its.lane_flat c);
  plain = layer.plain_flat c;
})

pub opened_constant : (t : DType) (r : Option Value) (n : ℕ) (c : Flat) (x : Column) → x ≡ column.Flat c → IsSound x → c ≡ flat t (replicate n r) → IsTrue (row_fits t r) → IsOpened (part.Constant t r n) x
opened_constant t r n c x is s e h = subst (IsOpened (part.Constant t r n)) (sym is) (record {
  clean = clean_constant t r n h;
  sound = subst IsSound is s;
  dtype = layer.type_flat c ∙ ap (λ x. x.dtype) e ∙ sym (its.type_constant t r n);
  rows = layer.rows_flat c ∙ ap (λ x. x.rows) e ∙ sym (its.rows_constant t r n);
  point = layer.point_flat c ∙ sym (its.point_constant t r n);
  cut = layer.cut_flat c ∙ sym (its.cut_constant t r n);
  lanes = layer.lane_flat c ∙ sym (its.lane_constant t r n);
  plain = layer.plain_flat c;
})

pub opened_chunked : (t : DType) (ps : List Part) (cs : List Column) (a : Chunked Column) → AreOpened ps cs → (a.chunks ≡ cs) × (a.dtype ≡ t) → IsSound (column.Chunked a) →
    total (map len_of cs) < 2 ^ 64 → All (IsOf t) cs → IsOpened (part.Chunked t ps) (column.Chunked a)
opened_chunked t ps cs a o e s fits types =
    let points = points_same ps cs o in
    let cuts = cuts_same ps cs o in
    let count : length a.chunks ≡ length ps = ap length e.0 ∙ opened_length ps cs o in
    record {
      clean = clean_chunked t ps (parts_clean ps cs o) (subst (λ ns. total ns < 2 ^ 64) (lens_same ps cs o) fits) (All-from_recursion (IsPartOf t) ps (types_down t ps cs o (recursion_from_All (IsOf t) cs types)));
      sound = s;
      dtype = layer.type_chunked a ∙ e.1 ∙ sym (its.type_chunked t ps);
      rows = layer.rows_chunked a ∙ ap joined (ap (map rows_of) e.0 ∙ rows_same ps cs o) ∙ sym (its.rows_chunked t ps);
      point = point_cost_is a ∙ ap (λ n. search_bound (n + 1) + greatest (map point_cost a.chunks)) count
          ∙ ap (λ ns. search_bound (length ps + 1) + greatest ns) (ap (map point_cost) e.0 ∙ points) ∙ sym (its.point_chunked t ps);
      cut = cut_cost_is a ∙ ap (λ n. search_bound (n + 1) + greatest (map cut_cost a.chunks)) count
          ∙ ap (λ ns. search_bound (length ps + 1) + greatest ns) (ap (map cut_cost) e.0 ∙ cuts) ∙ sym (its.cut_chunked t ps);
      lanes = layer.lane_chunked a ∙ ap total (ap (map lane_cost) e.0 ∙ lanes_same ps cs o) ∙ sym (its.lane_chunked t ps);
      plain = layer.plain_chunked a ∙ ap (λ xs. all_true (map is_plain xs)) e.0 ∙ all_plain ps cs o;
    }

pub opened_lanes : (p : Part) (n o : ℕ) (lo is vs : Flat) (c : Column) (a : Patched Column) → IsOpened p c → inner_of a ≡ c →
    lanes_of a ≡ layout (len_of c) n o lo is vs → IsSound (column.Patched a) → IsLanesFault (type_of c) (len_of c) n o lo is vs None → IsOpened (part.Lanes p n o lo is vs) (column.Patched a)
opened_lanes p n o lo is vs c a opened e l s h =
    let len : len_of c ≡ part_len p = ap length opened.rows in
    let lanes : a.lanes ≡ layout (part_len p) n o lo is vs = l ∙ ap (λ m. layout m n o lo is vs) len in
    record {
      clean = clean_lanes p n o lo is vs opened.clean (lanes_down p n o lo is vs c None opened h);
      sound = s;
      dtype = layer.type_patched a ∙ ap type_of e ∙ opened.dtype ∙ sym (its.type_lanes p n o lo is vs);
      rows = layer.rows_patched a ∙ ap (λ (r : Rows). overlaid a.lanes r) (ap rows_of e ∙ opened.rows) ∙ ap (λ (x : Layout). overlaid x (part_rows p)) lanes ∙ sym (its.rows_lanes p n o lo is vs);
      point = layer.point_patched a ∙ ap (λ k. lane_reads a.lanes.n_lanes + k) (ap point_cost e ∙ opened.point)
          ∙ ap (λ (x : Layout). lane_reads x.n_lanes + part_point_cost p) lanes ∙ sym (its.point_lanes p n o lo is vs);
      cut = layer.cut_patched a ∙ ap cut_cost e ∙ opened.cut ∙ sym (its.cut_lanes p n o lo is vs);
      lanes = layer.lane_patched a ∙ ap (λ k. lane_entries a.lanes + k) (ap lane_cost e ∙ opened.lanes)
          ∙ ap (λ (x : Layout). lane_entries x + part_lane_cost p) lanes ∙ sym (its.lane_lanes p n o lo is vs);
      plain = layer.plain_patched a ∙ ap is_plain e ∙ opened.plain;
    }

pub opened_excepted : (b : Part) (o : ℕ) (is : Flat) (v : Part) (co : Option Flat) (c d : Column) (a : Excepted Column) → IsOpened b c → IsOpened v d →
    base_of a ≡ c → values_of a ≡ d → index_of a ≡ made (len_of c) o is co → IsSound (column.Excepted a) → IsExceptionsFault (type_of c) (len_of c) o is (type_of d) (len_of d) co None →
    IsOpened (part.Excepted b o is v co) (column.Excepted a)
opened_excepted b o is v co c d a base values e f i s h =
    let len : len_of c ≡ part_len b = ap length base.rows in
    let index : a.index ≡ made (part_len b) o is co = i ∙ ap (λ m. made m o is co) len in
    record {
      clean = clean_excepted b o is v co base.clean values.clean (exceptions_down b o is v co c d None base values h);
      sound = s;
      dtype = layer.type_excepted a ∙ ap type_of e ∙ base.dtype ∙ sym (its.type_excepted b o is v co);
      rows = layer.rows_excepted a ∙ ap (λ (r : Rows). excepted a.index r (rows_of a.base)) (ap rows_of f ∙ values.rows) ∙ ap (λ (r : Rows). excepted a.index (part_rows v) r) (ap rows_of e ∙ base.rows)
          ∙ ap (λ (x : Index). excepted x (part_rows v) (part_rows b)) index ∙ sym (its.rows_excepted b o is v co);
      point = layer.point_excepted a ∙ ap (λ k. search_cost a.index + (point_cost a.base + k)) (ap point_cost f ∙ values.point) ∙ ap (λ k. search_cost a.index + (k + part_point_cost v)) (ap point_cost e ∙ base.point)
          ∙ ap (λ (x : Index). search_cost x + (part_point_cost b + part_point_cost v)) index ∙ sym (its.point_excepted b o is v co);
      cut = layer.cut_excepted a ∙ ap (λ k. places_cut_cost a.index + (cut_cost a.base + k)) (ap cut_cost f ∙ values.cut) ∙ ap (λ k. places_cut_cost a.index + (k + part_cut_cost v)) (ap cut_cost e ∙ base.cut)
          ∙ ap (λ (x : Index). places_cut_cost x + (part_cut_cost b + part_cut_cost v)) index ∙ sym (its.cut_excepted b o is v co);
      lanes = layer.lane_excepted a ∙ ap (λ k. lane_cost a.base + k) (ap lane_cost f ∙ values.lanes) ∙ ap (λ k. k + part_lane_cost v) (ap lane_cost e ∙ base.lanes) ∙ sym (its.lane_excepted b o is v co);
      plain = layer.plain_excepted a ∙ and_from (is_plain a.base) (is_plain a.values) (ap is_plain e ∙ base.plain) (ap is_plain f ∙ values.plain);
    }

pub opened_interleaved : (ps : List Part) (ai ri : Flat) (cs : List Column) (a : Interleave Column) → AreOpened ps cs → interleaved_of a ≡ cs →
    selectors_of a ≡ selection ai ri → IsSound (column.Interleave a) → IsInterleaveFault (map type_of cs) (map len_of cs) ai ri None → IsOpened (part.Interleaved ps ai ri) (column.Interleave a)
opened_interleaved ps ai ri cs a o e l s h =
    let types : map type_of a.values ≡ map part_type ps = ap (map type_of) e ∙ types_same ps cs o in
    record {
      clean = clean_interleaved ps ai ri (parts_clean ps cs o) (interleaved_down ps ai ri cs None o h);
      sound = s;
      dtype = layer.type_interleave a ∙ (interleaved_here a s).joined ∙ ap interleaved_type types ∙ sym (its.type_interleaved ps ai ri);
      rows = layer.rows_interleave a ∙ ap (λ (x : Selection). interleaved (map rows_of a.values) (pairs_of x)) l ∙ ap (λ (rs : List Rows). interleaved rs (pairs_of (selection ai ri))) (ap (map rows_of) e ∙ rows_same ps cs o)
          ∙ sym (its.rows_interleaved ps ai ri);
      point = layer.point_interleave a ∙ ap (λ ns. 2 + greatest ns) (ap (map point_cost) e ∙ points_same ps cs o) ∙ sym (its.point_interleaved ps ai ri);
      cut = layer.cut_interleave a ∙ sym (its.cut_interleaved ps ai ri);
      lanes = layer.lane_interleave a ∙ ap total (ap (map lane_cost) e ∙ lanes_same ps cs o) ∙ sym (its.lane_interleaved ps ai ri);
      plain = layer.plain_interleave a ∙ ap (λ xs. all_true (map is_plain xs)) e ∙ all_plain ps cs o;
    }
