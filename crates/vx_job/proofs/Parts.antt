-- One layer of a part: its rows, its type, what it costs, and that it is clean.
use Rattle.std.proofs.Common.{◌≡◌, ℕ, ◌+◌, ◌<◌, ◌^◌, List, [], ◌∷◌, map, length, refl, sym, ◌∙◌, ap, subst, Option, None, IsTrue, replicate}
use Rattle.std.specs.List.{All, AllByRecursion}
use Rattle.std.proofs.lemmas.List.{length-map}
use Rattle.vx_rows.specs.Fits.{row_fits}
use Rattle.vx_rows.specs.declared.dtype.DType.{DType}
use Rattle.vx_rows.specs.declared.value.Value.{Value}
use Rattle.vx_base.specs.Column.{Flat}
use Rattle.vx_search.specs.Places.{search_bound}
use Rattle.vx_chunks.specs.Bounds.{total}
use Rattle.vx_patches.specs.Making.{made}
use Rattle.vx_patches.specs.Search.{search_cost}
use Rattle.vx_patches.specs.Slices.{cut_cost as places_cut_cost}
use Rattle.vx_lanes.specs.Layouts.{layout, overlaid}
use Rattle.vx_interleave.specs.Selections.{selection, pairs_of}
use Rattle.vx_job.specs.Kinds.{interleaved_type}
use Rattle.vx_job.specs.Faults.{IsLanesFault, IsExceptionsFault, IsInterleaveFault}
use Rattle.vx_job.specs.Rows.{Rows, joined, excepted, interleaved, greatest, lane_reads}
use Rattle.vx_job.specs.Parts.{type_step, part_type, rows_step, part_rows, part_len, point_step, part_point_cost, cut_step, part_cut_cost, lane_step, part_lane_cost, open_step, part_open_cost, open_cost, IsPartOf, IsCleanLayer, IsClean, children}
use Rattle.vx_job.specs.declared.part.Part.{Part}
use Rattle.vx_job.specs.declared.part.Part.TheOpen.{Part-F}
use Rattle.vx_job.specs.declared.part.Part.TheViews.{roll-Part}
use Rattle.vx_job.specs.declared.part.Part.TheVariants.{rolls-Flat, rolls-Constant, rolls-Chunked, rolls-Lanes, rolls-Excepted, rolls-Interleaved}
use Rattle.vx_job.specs.declared.part.Part.TheVariants as part
use Rattle.vx_job.specs.declared.part.Part.TheFolds.{fold-roll-Part, every_made-Part}

-- rows
pub rows_flat : (c : Flat) → part_rows (part.Flat c) ≡ c.rows
rows_flat c = ap part_rows (sym (rolls-Flat c)) ∙ fold-roll-Part Rows rows_step (Part-F.Flat c)

pub rows_constant : (t : DType) (r : Option Value) (n : ℕ) → part_rows (part.Constant t r n) ≡ replicate n r
rows_constant t r n = ap part_rows (sym (rolls-Constant t r n)) ∙ fold-roll-Part Rows rows_step (Part-F.Constant t r n)

pub rows_chunked : (t : DType) (ps : List Part) → part_rows (part.Chunked t ps) ≡ joined (map part_rows ps)
rows_chunked t ps = ap part_rows (sym (rolls-Chunked t ps)) ∙ fold-roll-Part Rows rows_step (Part-F.Chunked t ps)

pub rows_lanes : (p : Part) (n o : ℕ) (lo is vs : Flat) → part_rows (part.Lanes p n o lo is vs) ≡ overlaid (layout (part_len p) n o lo is vs) (part_rows p)
rows_lanes p n o lo is vs = ap part_rows (sym (rolls-Lanes p n o lo is vs)) ∙ fold-roll-Part Rows rows_step (Part-F.Lanes p n o lo is vs)

pub rows_excepted : (b : Part) (o : ℕ) (is : Flat) (v : Part) (co : Option Flat) → part_rows (part.Excepted b o is v co) ≡ excepted (made (part_len b) o is co) (part_rows v) (part_rows b)
rows_excepted b o is v co = ap part_rows (sym (rolls-Excepted b o is v co)) ∙ fold-roll-Part Rows rows_step (Part-F.Excepted b o is v co)

pub rows_interleaved : (ps : List Part) (ai ri : Flat) → part_rows (part.Interleaved ps ai ri) ≡ interleaved (map part_rows ps) (pairs_of (selection ai ri))
rows_interleaved ps ai ri = ap part_rows (sym (rolls-Interleaved ps ai ri)) ∙ fold-roll-Part Rows rows_step (Part-F.Interleaved ps ai ri)

-- types
pub type_flat : (c : Flat) → part_type (part.Flat c) ≡ c.dtype
type_flat c = ap part_type (sym (rolls-Flat c)) ∙ fold-roll-Part DType type_step (Part-F.Flat c)

pub type_constant : (t : DType) (r : Option Value) (n : ℕ) → part_type (part.Constant t r n) ≡ t
type_constant t r n = ap part_type (sym (rolls-Constant t r n)) ∙ fold-roll-Part DType type_step (Part-F.Constant t r n)

pub type_chunked : (t : DType) (ps : List Part) → part_type (part.Chunked t ps) ≡ t
type_chunked t ps = ap part_type (sym (rolls-Chunked t ps)) ∙ fold-roll-Part DType type_step (Part-F.Chunked t ps)

pub type_lanes : (p : Part) (n o : ℕ) (lo is vs : Flat) → part_type (part.Lanes p n o lo is vs) ≡ part_type p
type_lanes p n o lo is vs = ap part_type (sym (rolls-Lanes p n o lo is vs)) ∙ fold-roll-Part DType type_step (Part-F.Lanes p n o lo is vs)

pub type_excepted : (b : Part) (o : ℕ) (is : Flat) (v : Part) (co : Option Flat) → part_type (part.Excepted b o is v co) ≡ part_type b
type_excepted b o is v co = ap part_type (sym (rolls-Excepted b o is v co)) ∙ fold-roll-Part DType type_step (Part-F.Excepted b o is v co)

pub type_interleaved : (ps : List Part) (ai ri : Flat) → part_type (part.Interleaved ps ai ri) ≡ interleaved_type (map part_type ps)
type_interleaved ps ai ri = ap part_type (sym (rolls-Interleaved ps ai ri)) ∙ fold-roll-Part DType type_step (Part-F.Interleaved ps ai ri)

-- reads
pub point_flat : (c : Flat) → part_point_cost (part.Flat c) ≡ 1
point_flat c = ap part_point_cost (sym (rolls-Flat c)) ∙ fold-roll-Part ℕ point_step (Part-F.Flat c)

pub point_constant : (t : DType) (r : Option Value) (n : ℕ) → part_point_cost (part.Constant t r n) ≡ 1
point_constant t r n = ap part_point_cost (sym (rolls-Constant t r n)) ∙ fold-roll-Part ℕ point_step (Part-F.Constant t r n)

pub point_chunked : (t : DType) (ps : List Part) → part_point_cost (part.Chunked t ps) ≡ search_bound (length ps + 1) + greatest (map part_point_cost ps)
point_chunked t ps = ap part_point_cost (sym (rolls-Chunked t ps)) ∙ fold-roll-Part ℕ point_step (Part-F.Chunked t ps)
    ∙ ap (λ n. search_bound (n + 1) + greatest (map part_point_cost ps)) (length-map ps part_point_cost)

pub point_lanes : (p : Part) (n o : ℕ) (lo is vs : Flat) → part_point_cost (part.Lanes p n o lo is vs) ≡ lane_reads n + part_point_cost p
point_lanes p n o lo is vs = ap part_point_cost (sym (rolls-Lanes p n o lo is vs)) ∙ fold-roll-Part ℕ point_step (Part-F.Lanes p n o lo is vs)

pub point_excepted : (b : Part) (o : ℕ) (is : Flat) (v : Part) (co : Option Flat) → part_point_cost (part.Excepted b o is v co) ≡ search_cost (made 0 o is co) + (part_point_cost b + part_point_cost v)
point_excepted b o is v co = ap part_point_cost (sym (rolls-Excepted b o is v co)) ∙ fold-roll-Part ℕ point_step (Part-F.Excepted b o is v co)

pub point_interleaved : (ps : List Part) (ai ri : Flat) → part_point_cost (part.Interleaved ps ai ri) ≡ 2 + greatest (map part_point_cost ps)
point_interleaved ps ai ri = ap part_point_cost (sym (rolls-Interleaved ps ai ri)) ∙ fold-roll-Part ℕ point_step (Part-F.Interleaved ps ai ri)

-- cut ends of slices
pub cut_flat : (c : Flat) → part_cut_cost (part.Flat c) ≡ 0
cut_flat c = ap part_cut_cost (sym (rolls-Flat c)) ∙ fold-roll-Part ℕ cut_step (Part-F.Flat c)

pub cut_constant : (t : DType) (r : Option Value) (n : ℕ) → part_cut_cost (part.Constant t r n) ≡ 0
cut_constant t r n = ap part_cut_cost (sym (rolls-Constant t r n)) ∙ fold-roll-Part ℕ cut_step (Part-F.Constant t r n)

pub cut_chunked : (t : DType) (ps : List Part) → part_cut_cost (part.Chunked t ps) ≡ search_bound (length ps + 1) + greatest (map part_cut_cost ps)
cut_chunked t ps = ap part_cut_cost (sym (rolls-Chunked t ps)) ∙ fold-roll-Part ℕ cut_step (Part-F.Chunked t ps)
    ∙ ap (λ n. search_bound (n + 1) + greatest (map part_cut_cost ps)) (length-map ps part_cut_cost)

pub cut_lanes : (p : Part) (n o : ℕ) (lo is vs : Flat) → part_cut_cost (part.Lanes p n o lo is vs) ≡ part_cut_cost p
cut_lanes p n o lo is vs = ap part_cut_cost (sym (rolls-Lanes p n o lo is vs)) ∙ fold-roll-Part ℕ cut_step (Part-F.Lanes p n o lo is vs)

pub cut_excepted : (b : Part) (o : ℕ) (is : Flat) (v : Part) (co : Option Flat) → part_cut_cost (part.Excepted b o is v co) ≡ places_cut_cost (made 0 o is co) + (part_cut_cost b + part_cut_cost v)
cut_excepted b o is v co = ap part_cut_cost (sym (rolls-Excepted b o is v co)) ∙ fold-roll-Part ℕ cut_step (Part-F.Excepted b o is v co)

pub cut_interleaved : (ps : List Part) (ai ri : Flat) → part_cut_cost (part.Interleaved ps ai ri) ≡ 0
cut_interleaved ps ai ri = ap part_cut_cost (sym (rolls-Interleaved ps ai ri)) ∙ fold-roll-Part ℕ cut_step (Part-F.Interleaved ps ai ri)

-- lane offsets and exceptions
pub lane_flat : (c : Flat) → part_lane_cost (part.Flat c) ≡ 0
lane_flat c = ap part_lane_cost (sym (rolls-Flat c)) ∙ fold-roll-Part ℕ lane_step (Part-F.Flat c)

pub lane_constant : (t : DType) (r : Option Value) (n : ℕ) → part_lane_cost (part.Constant t r n) ≡ 0
lane_constant t r n = ap part_lane_cost (sym (rolls-Constant t r n)) ∙ fold-roll-Part ℕ lane_step (Part-F.Constant t r n)

pub lane_chunked : (t : DType) (ps : List Part) → part_lane_cost (part.Chunked t ps) ≡ total (map part_lane_cost ps)
lane_chunked t ps = ap part_lane_cost (sym (rolls-Chunked t ps)) ∙ fold-roll-Part ℕ lane_step (Part-F.Chunked t ps)

pub lane_lanes : (p : Part) (n o : ℕ) (lo is vs : Flat) → part_lane_cost (part.Lanes p n o lo is vs) ≡ length lo.rows + length is.rows + part_lane_cost p
lane_lanes p n o lo is vs = ap part_lane_cost (sym (rolls-Lanes p n o lo is vs)) ∙ fold-roll-Part ℕ lane_step (Part-F.Lanes p n o lo is vs)

pub lane_excepted : (b : Part) (o : ℕ) (is : Flat) (v : Part) (co : Option Flat) → part_lane_cost (part.Excepted b o is v co) ≡ part_lane_cost b + part_lane_cost v
lane_excepted b o is v co = ap part_lane_cost (sym (rolls-Excepted b o is v co)) ∙ fold-roll-Part ℕ lane_step (Part-F.Excepted b o is v co)

pub lane_interleaved : (ps : List Part) (ai ri : Flat) → part_lane_cost (part.Interleaved ps ai ri) ≡ total (map part_lane_cost ps)
lane_interleaved ps ai ri = ap part_lane_cost (sym (rolls-Interleaved ps ai ri)) ∙ fold-roll-Part ℕ lane_step (Part-F.Interleaved ps ai ri)

-- opening
pub open_flat : (c : Flat) → part_open_cost (part.Flat c) ≡ 0
open_flat c = ap part_open_cost (sym (rolls-Flat c)) ∙ fold-roll-Part ℕ open_step (Part-F.Flat c)

pub open_constant : (t : DType) (r : Option Value) (n : ℕ) → part_open_cost (part.Constant t r n) ≡ 0
open_constant t r n = ap part_open_cost (sym (rolls-Constant t r n)) ∙ fold-roll-Part ℕ open_step (Part-F.Constant t r n)

pub open_chunked : (t : DType) (ps : List Part) → part_open_cost (part.Chunked t ps) ≡ open_cost ps
open_chunked t ps = ap part_open_cost (sym (rolls-Chunked t ps)) ∙ fold-roll-Part ℕ open_step (Part-F.Chunked t ps)

pub open_lanes : (p : Part) (n o : ℕ) (lo is vs : Flat) → part_open_cost (part.Lanes p n o lo is vs) ≡ length lo.rows + length is.rows + part_open_cost p
open_lanes p n o lo is vs = ap part_open_cost (sym (rolls-Lanes p n o lo is vs)) ∙ fold-roll-Part ℕ open_step (Part-F.Lanes p n o lo is vs)

pub open_excepted : (b : Part) (o : ℕ) (is : Flat) (v : Part) (co : Option Flat) → part_open_cost (part.Excepted b o is v co) ≡ part_open_cost b + part_open_cost v
open_excepted b o is v co = ap part_open_cost (sym (rolls-Excepted b o is v co)) ∙ fold-roll-Part ℕ open_step (Part-F.Excepted b o is v co)

pub open_interleaved : (ps : List Part) (ai ri : Flat) → part_open_cost (part.Interleaved ps ai ri) ≡ open_cost ps
open_interleaved ps ai ri = ap part_open_cost (sym (rolls-Interleaved ps ai ri)) ∙ fold-roll-Part ℕ open_step (Part-F.Interleaved ps ai ri)

-- clean parts
abbrev Known : Type 0
Known = (p : Part) × IsClean p

with_proofs : (xs : List Part) → AllByRecursion IsClean xs → List Known
with_proofs [] s = []
with_proofs (x ∷ xs) s = (x, s.0) ∷ with_proofs xs s.1

with_proofs_of : (xs : List Part) (s : AllByRecursion IsClean xs) → map (λ e. e.0) (with_proofs xs s) ≡ xs
unfolding with_proofs
with_proofs_of [] s = refl
with_proofs_of (x ∷ xs) s = ap (λ ys. x ∷ ys) (with_proofs_of xs s.1)

-- a layer that meets its own rules, over clean parts
pub clean_made : (y : Part-F Part) → AllByRecursion IsClean (children y) → IsCleanLayer y → IsClean (roll-Part y)
clean_made (Part-F.Flat c) s h = every_made-Part IsCleanLayer (Part-F.Flat c) (Part-F.Flat c) refl h
clean_made (Part-F.Constant t r n) s h = every_made-Part IsCleanLayer (Part-F.Constant t r n) (Part-F.Constant t r n) refl h
clean_made (Part-F.Chunked t ps) s h =
    every_made-Part IsCleanLayer (Part-F.Chunked t ps) (Part-F.Chunked t (with_proofs ps s)) (ap (λ xs. Part-F.Chunked t xs) (with_proofs_of ps s)) h
clean_made (Part-F.Lanes p n o lo is vs) s h = every_made-Part IsCleanLayer (Part-F.Lanes p n o lo is vs) (Part-F.Lanes (p, s.0) n o lo is vs) refl h
clean_made (Part-F.Excepted b o is v co) s h = every_made-Part IsCleanLayer (Part-F.Excepted b o is v co) (Part-F.Excepted (b, s.0) o is (v, s.1.0) co) refl h
clean_made (Part-F.Interleaved ps ai ri) s h =
    every_made-Part IsCleanLayer (Part-F.Interleaved ps ai ri) (Part-F.Interleaved (with_proofs ps s) ai ri) (ap (λ xs. Part-F.Interleaved xs ai ri) (with_proofs_of ps s)) h

pub clean_flat : (c : Flat) → IsClean (part.Flat c)
clean_flat c = subst IsClean (rolls-Flat c) (clean_made (Part-F.Flat c) tt refl)

pub clean_constant : (t : DType) (r : Option Value) (n : ℕ) → IsTrue (row_fits t r) → IsClean (part.Constant t r n)
clean_constant t r n h = subst IsClean (rolls-Constant t r n) (clean_made (Part-F.Constant t r n) tt h)

pub clean_chunked : (t : DType) (ps : List Part) → AllByRecursion IsClean ps → total (map part_len ps) < 2 ^ 64 → All (IsPartOf t) ps → IsClean (part.Chunked t ps)
clean_chunked t ps s h k = subst IsClean (rolls-Chunked t ps) (clean_made (Part-F.Chunked t ps) s (h, k))

pub clean_lanes : (p : Part) (n o : ℕ) (lo is vs : Flat) → IsClean p → IsLanesFault (part_type p) (part_len p) n o lo is vs None → IsClean (part.Lanes p n o lo is vs)
clean_lanes p n o lo is vs s h = subst IsClean (rolls-Lanes p n o lo is vs) (clean_made (Part-F.Lanes p n o lo is vs) (s, tt) h)

pub clean_excepted : (b : Part) (o : ℕ) (is : Flat) (v : Part) (co : Option Flat) → IsClean b → IsClean v
    → IsExceptionsFault (part_type b) (part_len b) o is (part_type v) (part_len v) co None → IsClean (part.Excepted b o is v co)
clean_excepted b o is v co s r h = subst IsClean (rolls-Excepted b o is v co) (clean_made (Part-F.Excepted b o is v co) (s, (r, tt)) h)

pub clean_interleaved : (ps : List Part) (ai ri : Flat) → AllByRecursion IsClean ps → IsInterleaveFault (map part_type ps) (map part_len ps) ai ri None → IsClean (part.Interleaved ps ai ri)
clean_interleaved ps ai ri s h = subst IsClean (rolls-Interleaved ps ai ri) (clean_made (Part-F.Interleaved ps ai ri) s h)
