-- One layer of a column.
use Rattle.std.proofs.Common.{Bool, true, ◌&&◌, ◌≡◌, ℕ, ◌+◌, ◌≤◌, List, [], ◌∷◌, map, length, refl, sym, ◌∙◌, ap, subst, arith, length-append}
use Rattle.std.specs.List.{All, AllByRecursion}
use Rattle.std.proofs.lemmas.Bool.{and_parts, and_from}
use Rattle.std.proofs.lemmas.List.Elements.{All-from_recursion, recursion_from_All}
use Rattle.vx_search.specs.Places.{search_bound}
use Rattle.vx_chunks.specs.Bounds.{total}
use Rattle.vx_patches.specs.Search.{search_cost}
use Rattle.vx_patches.specs.Slices.{cut_cost as places_cut_cost}
use Rattle.vx_lanes.specs.Layouts.{overlaid}
use Rattle.vx_interleave.specs.Selections.{pairs_of}
use Rattle.vx_search.proofs.Powers.{search_bound_positive}
use Rattle.vx_base.specs.Column.{Flat, IsFlat}
use Rattle.vx_rows.specs.declared.dtype.DType.{DType}
use Rattle.vx_column.specs.Columns.{type_of, type_step, lane_cost, lane_step, lane_entries, is_plain, plain_step, all_true, rows_of, rows_step, point_cost, point_step, cut_cost, cut_step, len_of, AreChunks, AreLanes, AreExceptions, AreInterleaved, IsSound, IsPlain, IsSoundLayer, slots_in, offset_slots, lane_slots, selector_slots}
use Rattle.vx_job.specs.Rows.{Rows, lane_reads, joined, excepted, interleaved, greatest}
use Rattle.vx_column.specs.declared.chunked.Chunked.{Chunked}
use Rattle.vx_column.specs.declared.patched.Patched.{Patched}
use Rattle.vx_column.specs.declared.excepted.Excepted.{Excepted}
use Rattle.vx_column.specs.declared.interleave.Interleave.{Interleave}
use Rattle.vx_column.specs.declared.column.Column.{Column}
use Rattle.vx_column.specs.declared.column.Column.TheOpen.{Column-F}
use Rattle.vx_column.specs.declared.column.Column.TheVariants.{rolls-Flat, rolls-Chunked, rolls-Patched, rolls-Excepted, rolls-Interleave, outs-Flat, outs-Chunked, outs-Patched, outs-Excepted, outs-Interleave}
use Rattle.vx_column.specs.declared.column.Column.TheVariants as column
use Rattle.vx_column.specs.declared.column.Column.TheViews.{out-Column, roll-Column}
use Rattle.vx_column.specs.declared.column.Column.TheFolds.{every_held-Column, every_here-Column, every_made-Column, fold-roll-Column, ind-Column, map-Column}

pub rows_chunked : (c : Chunked Column) → rows_of (column.Chunked c) ≡ joined (map rows_of c.chunks)
rows_chunked c = ap rows_of (sym (rolls-Chunked c)) ∙ fold-roll-Column Rows rows_step (Column-F.Chunked c)

pub type_chunked : (c : Chunked Column) → type_of (column.Chunked c) ≡ c.dtype
type_chunked c = ap type_of (sym (rolls-Chunked c)) ∙ fold-roll-Column DType type_step (Column-F.Chunked c)

pub type_flat : (rows : Flat) → type_of (column.Flat rows) ≡ rows.dtype
type_flat rows = ap type_of (sym (rolls-Flat rows)) ∙ fold-roll-Column DType type_step (Column-F.Flat rows)

pub lane_chunked : (c : Chunked Column) → lane_cost (column.Chunked c) ≡ total (map lane_cost c.chunks)
lane_chunked c = ap lane_cost (sym (rolls-Chunked c)) ∙ fold-roll-Column ℕ lane_step (Column-F.Chunked c)

pub lane_flat : (rows : Flat) → lane_cost (column.Flat rows) ≡ 0
lane_flat rows = ap lane_cost (sym (rolls-Flat rows)) ∙ fold-roll-Column ℕ lane_step (Column-F.Flat rows)

pub plain_chunked : (c : Chunked Column) → is_plain (column.Chunked c) ≡ all_true (map is_plain c.chunks)
plain_chunked c = ap is_plain (sym (rolls-Chunked c)) ∙ fold-roll-Column Bool plain_step (Column-F.Chunked c)

pub plain_flat : (rows : Flat) → is_plain (column.Flat rows) ≡ true
plain_flat rows = ap is_plain (sym (rolls-Flat rows)) ∙ fold-roll-Column Bool plain_step (Column-F.Flat rows)

pub point_chunked : (c : Chunked Column) → point_cost (column.Chunked c) ≡ search_bound (length (map point_cost c.chunks) + 1) + greatest (map point_cost c.chunks)
point_chunked c = ap point_cost (sym (rolls-Chunked c)) ∙ fold-roll-Column ℕ point_step (Column-F.Chunked c)

pub cut_chunked : (c : Chunked Column) → cut_cost (column.Chunked c) ≡ search_bound (length (map cut_cost c.chunks) + 1) + greatest (map cut_cost c.chunks)
cut_chunked c = ap cut_cost (sym (rolls-Chunked c)) ∙ fold-roll-Column ℕ cut_step (Column-F.Chunked c)

pub rows_flat : (rows : Flat) → rows_of (column.Flat rows) ≡ rows.rows
rows_flat rows = ap rows_of (sym (rolls-Flat rows)) ∙ fold-roll-Column Rows rows_step (Column-F.Flat rows)

pub point_flat : (rows : Flat) → point_cost (column.Flat rows) ≡ 1
point_flat rows = ap point_cost (sym (rolls-Flat rows)) ∙ fold-roll-Column ℕ point_step (Column-F.Flat rows)

pub cut_flat : (rows : Flat) → cut_cost (column.Flat rows) ≡ 0
cut_flat rows = ap cut_cost (sym (rolls-Flat rows)) ∙ fold-roll-Column ℕ cut_step (Column-F.Flat rows)

pub rows_patched : (p : Patched Column) → rows_of (column.Patched p) ≡ overlaid p.lanes (rows_of p.inner)
rows_patched p = ap rows_of (sym (rolls-Patched p)) ∙ fold-roll-Column Rows rows_step (Column-F.Patched p)

pub type_patched : (p : Patched Column) → type_of (column.Patched p) ≡ type_of p.inner
type_patched p = ap type_of (sym (rolls-Patched p)) ∙ fold-roll-Column DType type_step (Column-F.Patched p)

pub point_patched : (p : Patched Column) → point_cost (column.Patched p) ≡ lane_reads p.lanes.n_lanes + point_cost p.inner
point_patched p = ap point_cost (sym (rolls-Patched p)) ∙ fold-roll-Column ℕ point_step (Column-F.Patched p)

pub cut_patched : (p : Patched Column) → cut_cost (column.Patched p) ≡ cut_cost p.inner
cut_patched p = ap cut_cost (sym (rolls-Patched p)) ∙ fold-roll-Column ℕ cut_step (Column-F.Patched p)

pub lane_patched : (p : Patched Column) → lane_cost (column.Patched p) ≡ lane_entries p.lanes + lane_cost p.inner
lane_patched p = ap lane_cost (sym (rolls-Patched p)) ∙ fold-roll-Column ℕ lane_step (Column-F.Patched p)

pub plain_patched : (p : Patched Column) → is_plain (column.Patched p) ≡ is_plain p.inner
plain_patched p = ap is_plain (sym (rolls-Patched p)) ∙ fold-roll-Column Bool plain_step (Column-F.Patched p)

pub rows_excepted : (x : Excepted Column) → rows_of (column.Excepted x) ≡ excepted x.index (rows_of x.values) (rows_of x.base)
rows_excepted x = ap rows_of (sym (rolls-Excepted x)) ∙ fold-roll-Column Rows rows_step (Column-F.Excepted x)

pub type_excepted : (x : Excepted Column) → type_of (column.Excepted x) ≡ type_of x.base
type_excepted x = ap type_of (sym (rolls-Excepted x)) ∙ fold-roll-Column DType type_step (Column-F.Excepted x)

pub point_excepted : (x : Excepted Column) → point_cost (column.Excepted x) ≡ search_cost x.index + (point_cost x.base + point_cost x.values)
point_excepted x = ap point_cost (sym (rolls-Excepted x)) ∙ fold-roll-Column ℕ point_step (Column-F.Excepted x)

pub cut_excepted : (x : Excepted Column) → cut_cost (column.Excepted x) ≡ places_cut_cost x.index + (cut_cost x.base + cut_cost x.values)
cut_excepted x = ap cut_cost (sym (rolls-Excepted x)) ∙ fold-roll-Column ℕ cut_step (Column-F.Excepted x)

pub lane_excepted : (x : Excepted Column) → lane_cost (column.Excepted x) ≡ lane_cost x.base + lane_cost x.values
lane_excepted x = ap lane_cost (sym (rolls-Excepted x)) ∙ fold-roll-Column ℕ lane_step (Column-F.Excepted x)

pub plain_excepted : (x : Excepted Column) → is_plain (column.Excepted x) ≡ (is_plain x.base && is_plain x.values)
plain_excepted x = ap is_plain (sym (rolls-Excepted x)) ∙ fold-roll-Column Bool plain_step (Column-F.Excepted x)

pub rows_interleave : (i : Interleave Column) → rows_of (column.Interleave i) ≡ interleaved (map rows_of i.values) (pairs_of i.selectors)
rows_interleave i = ap rows_of (sym (rolls-Interleave i)) ∙ fold-roll-Column Rows rows_step (Column-F.Interleave i)

pub type_interleave : (i : Interleave Column) → type_of (column.Interleave i) ≡ i.dtype
type_interleave i = ap type_of (sym (rolls-Interleave i)) ∙ fold-roll-Column DType type_step (Column-F.Interleave i)

pub point_interleave : (i : Interleave Column) → point_cost (column.Interleave i) ≡ 2 + greatest (map point_cost i.values)
point_interleave i = ap point_cost (sym (rolls-Interleave i)) ∙ fold-roll-Column ℕ point_step (Column-F.Interleave i)

pub cut_interleave : (i : Interleave Column) → cut_cost (column.Interleave i) ≡ 0
cut_interleave i = ap cut_cost (sym (rolls-Interleave i)) ∙ fold-roll-Column ℕ cut_step (Column-F.Interleave i)

pub lane_interleave : (i : Interleave Column) → lane_cost (column.Interleave i) ≡ total (map lane_cost i.values)
lane_interleave i = ap lane_cost (sym (rolls-Interleave i)) ∙ fold-roll-Column ℕ lane_step (Column-F.Interleave i)

pub plain_interleave : (i : Interleave Column) → is_plain (column.Interleave i) ≡ all_true (map is_plain i.values)
plain_interleave i = ap is_plain (sym (rolls-Interleave i)) ∙ fold-roll-Column Bool plain_step (Column-F.Interleave i)

pub flat_here : (rows : Flat) → IsSound (column.Flat rows) → IsFlat rows
flat_here rows s = subst IsSoundLayer (outs-Flat rows) (every_here-Column IsSoundLayer (column.Flat rows) s)

chunks_layer : (c : Chunked Column) → IsSound (column.Chunked c) → IsSoundLayer (Column-F.Chunked c)
chunks_layer c s = subst IsSoundLayer (outs-Chunked c) (every_here-Column IsSoundLayer (column.Chunked c) s)

pub chunks_here : (c : Chunked Column) → IsSound (column.Chunked c) → AreChunks c
chunks_here c s = (chunks_layer c s).0

pub offsets_here : (c : Chunked Column) → IsSound (column.Chunked c) → c.slots ≡ map column.Flat (offset_slots c.boundaries)
offsets_here c s = (chunks_layer c s).1

lanes_layer : (p : Patched Column) → IsSound (column.Patched p) → IsSoundLayer (Column-F.Patched p)
lanes_layer p s = subst IsSoundLayer (outs-Patched p) (every_here-Column IsSoundLayer (column.Patched p) s)

pub lanes_here : (p : Patched Column) → IsSound (column.Patched p) → AreLanes p
lanes_here p s = (lanes_layer p s).0

pub lane_slots_here : (p : Patched Column) → IsSound (column.Patched p) → p.slots ≡ map column.Flat (lane_slots p.lanes)
lane_slots_here p s = (lanes_layer p s).1

exceptions_layer : (x : Excepted Column) → IsSound (column.Excepted x) → IsSoundLayer (Column-F.Excepted x)
exceptions_layer x s = subst IsSoundLayer (outs-Excepted x) (every_here-Column IsSoundLayer (column.Excepted x) s)

pub exceptions_here : (x : Excepted Column) → IsSound (column.Excepted x) → AreExceptions x
exceptions_here x s = (exceptions_layer x s).0

pub slots_here : (x : Excepted Column) → IsSound (column.Excepted x) → x.slots ≡ map column.Flat (slots_in x.index)
slots_here x s = (exceptions_layer x s).1

interleaved_layer : (i : Interleave Column) → IsSound (column.Interleave i) → IsSoundLayer (Column-F.Interleave i)
interleaved_layer i s = subst IsSoundLayer (outs-Interleave i) (every_here-Column IsSoundLayer (column.Interleave i) s)

pub interleaved_here : (i : Interleave Column) → IsSound (column.Interleave i) → AreInterleaved i
interleaved_here i s = (interleaved_layer i s).0

pub selectors_here : (i : Interleave Column) → IsSound (column.Interleave i) → i.slots ≡ map column.Flat (selector_slots i.selectors)
selectors_here i s = (interleaved_layer i s).1

-- a column with a proof
abbrev Known : Type 0
Known = (column : Column) × IsSound column

-- the columns right below
abbrev children_in : {A : Type 0} → Column-F A → List A
children_in (Column-F.Flat rows) = []
children_in (Column-F.Chunked c) = c.chunks
children_in (Column-F.Patched p) = p.inner ∷ []
children_in (Column-F.Excepted x) = x.base ∷ x.values ∷ []
children_in (Column-F.Interleave i) = i.values

-- those over the rows of its own parts
abbrev flat_slots : {A : Type 0} → Column-F A → List A
flat_slots (Column-F.Flat rows) = []
flat_slots (Column-F.Chunked c) = c.slots
flat_slots (Column-F.Patched p) = p.slots
flat_slots (Column-F.Excepted x) = x.slots
flat_slots (Column-F.Interleave i) = i.slots

known_sound : (xs : List Known) → AllByRecursion IsSound (map (λ e. e.0) xs)
known_sound [] = tt
known_sound (x ∷ xs) = (x.1, known_sound xs)

layer_sound : (x : Column-F Known) → AllByRecursion IsSound (children_in (map-Column Known Column (λ e. e.0) x))
layer_sound (Column-F.Flat rows) = tt
layer_sound (Column-F.Chunked c) = known_sound c.chunks
layer_sound (Column-F.Patched p) = known_sound (p.inner ∷ [])
layer_sound (Column-F.Excepted x) = known_sound (x.base ∷ x.values ∷ [])
layer_sound (Column-F.Interleave i) = known_sound i.values

layer_slots : (x : Column-F Known) → AllByRecursion IsSound (flat_slots (map-Column Known Column (λ e. e.0) x))
layer_slots (Column-F.Flat rows) = tt
layer_slots (Column-F.Chunked c) = known_sound c.slots
layer_slots (Column-F.Patched p) = known_sound p.slots
layer_slots (Column-F.Excepted x) = known_sound x.slots
layer_slots (Column-F.Interleave i) = known_sound i.slots

-- what is below a sound column is sound
sound_within : (x : Column) → IsSound x → AllByRecursion IsSound (children_in (out-Column x))
sound_within x s =
    let held = every_held-Column IsSoundLayer x s in
    subst (AllByRecursion IsSound) (ap children_in held.1) (layer_sound held.0)

slots_within : (x : Column) → IsSound x → AllByRecursion IsSound (flat_slots (out-Column x))
slots_within x s =
    let held = every_held-Column IsSoundLayer x s in
    subst (AllByRecursion IsSound) (ap flat_slots held.1) (layer_slots held.0)

pub sound_held : (c : Chunked Column) → IsSound (column.Chunked c) → All IsSound c.chunks
sound_held c s = All-from_recursion IsSound c.chunks (subst (AllByRecursion IsSound) (ap children_in (outs-Chunked c)) (sound_within (column.Chunked c) s))

pub inner_held : (p : Patched Column) → IsSound (column.Patched p) → IsSound p.inner
inner_held p s =
    let held : AllByRecursion IsSound (p.inner ∷ []) = subst (AllByRecursion IsSound) (ap children_in (outs-Patched p)) (sound_within (column.Patched p) s) in
    held.0

pub base_held : (x : Excepted Column) → IsSound (column.Excepted x) → IsSound x.base
base_held x s =
    let held : AllByRecursion IsSound (x.base ∷ x.values ∷ []) = subst (AllByRecursion IsSound) (ap children_in (outs-Excepted x)) (sound_within (column.Excepted x) s) in
    held.0

pub values_held : (x : Excepted Column) → IsSound (column.Excepted x) → IsSound x.values
values_held x s =
    let held : AllByRecursion IsSound (x.base ∷ x.values ∷ []) = subst (AllByRecursion IsSound) (ap children_in (outs-Excepted x)) (sound_within (column.Excepted x) s) in
    held.1.0

pub slots_held : (x : Excepted Column) → IsSound (column.Excepted x) → All IsSound x.slots
slots_held x s = All-from_recursion IsSound x.slots (subst (AllByRecursion IsSound) (ap flat_slots (outs-Excepted x)) (slots_within (column.Excepted x) s))

pub offsets_held : (c : Chunked Column) → IsSound (column.Chunked c) → All IsSound c.slots
offsets_held c s = All-from_recursion IsSound c.slots (subst (AllByRecursion IsSound) (ap flat_slots (outs-Chunked c)) (slots_within (column.Chunked c) s))

pub lane_slots_held : (p : Patched Column) → IsSound (column.Patched p) → All IsSound p.slots
lane_slots_held p s = All-from_recursion IsSound p.slots (subst (AllByRecursion IsSound) (ap flat_slots (outs-Patched p)) (slots_within (column.Patched p) s))

pub selectors_held : (i : Interleave Column) → IsSound (column.Interleave i) → All IsSound i.slots
selectors_held i s = All-from_recursion IsSound i.slots (subst (AllByRecursion IsSound) (ap flat_slots (outs-Interleave i)) (slots_within (column.Interleave i) s))

pub interleaved_held : (i : Interleave Column) → IsSound (column.Interleave i) → All IsSound i.values
interleaved_held i s = All-from_recursion IsSound i.values (subst (AllByRecursion IsSound) (ap children_in (outs-Interleave i)) (sound_within (column.Interleave i) s))

with_proofs : (xs : List Column) → AllByRecursion IsSound xs → List Known
with_proofs [] s = []
with_proofs (x ∷ xs) s = (x, s.0) ∷ with_proofs xs s.1

with_proofs_of : (xs : List Column) (s : AllByRecursion IsSound xs) → map (λ e. e.0) (with_proofs xs s) ≡ xs
unfolding with_proofs
with_proofs_of [] s = refl
with_proofs_of (x ∷ xs) s = ap (λ ys. x ∷ ys) (with_proofs_of xs s.1)

pub sound_flat : (rows : Flat) → IsFlat rows → IsSound (column.Flat rows)
sound_flat rows h = subst IsSound (rolls-Flat rows) (every_made-Column IsSoundLayer (Column-F.Flat rows) (Column-F.Flat rows) refl h)

pub chunked_made : (c : Chunked Column) → AreChunks c → c.slots ≡ map column.Flat (offset_slots c.boundaries) → All IsSound c.chunks → All IsSound c.slots → IsSound (column.Chunked c)
chunked_made c h slots s t =
    let all = recursion_from_All IsSound c.chunks s in
    let each = recursion_from_All IsSound c.slots t in
    subst IsSound (rolls-Chunked c) (every_made-Column IsSoundLayer (Column-F.Chunked c)
    (Column-F.Chunked record { dtype = c.dtype; boundaries = c.boundaries; chunks = with_proofs c.chunks all; slots = with_proofs c.slots each })
    (ap (λ xs. Column-F.Chunked record { dtype = c.dtype; boundaries = c.boundaries; chunks = xs; slots = map (λ e. e.0) (with_proofs c.slots each) }) (with_proofs_of c.chunks all)
    ∙ ap (λ ys. Column-F.Chunked record { dtype = c.dtype; boundaries = c.boundaries; chunks = c.chunks; slots = ys }) (with_proofs_of c.slots each)) (h, slots))

pub patched_made : (p : Patched Column) → AreLanes p → p.slots ≡ map column.Flat (lane_slots p.lanes) → IsSound p.inner → All IsSound p.slots → IsSound (column.Patched p)
patched_made p h slots s t =
    let each = recursion_from_All IsSound p.slots t in
    subst IsSound (rolls-Patched p) (every_made-Column IsSoundLayer (Column-F.Patched p)
    (Column-F.Patched record { inner = (p.inner, s); lanes = p.lanes; slots = with_proofs p.slots each })
    (ap (λ ys. Column-F.Patched record { inner = p.inner; lanes = p.lanes; slots = ys }) (with_proofs_of p.slots each)) (h, slots))

pub excepted_made : (x : Excepted Column) → AreExceptions x → x.slots ≡ map column.Flat (slots_in x.index) → IsSound x.base → IsSound x.values → All IsSound x.slots → IsSound (column.Excepted x)
excepted_made x h slots b v s =
    let all = recursion_from_All IsSound x.slots s in
    subst IsSound (rolls-Excepted x) (every_made-Column IsSoundLayer (Column-F.Excepted x)
    (Column-F.Excepted record { base = (x.base, b); index = x.index; values = (x.values, v); slots = with_proofs x.slots all })
    (ap (λ xs. Column-F.Excepted record { base = x.base; index = x.index; values = x.values; slots = xs }) (with_proofs_of x.slots all)) (h, slots))

pub interleaved_made : (i : Interleave Column) → AreInterleaved i → i.slots ≡ map column.Flat (selector_slots i.selectors) → All IsSound i.values → All IsSound i.slots → IsSound (column.Interleave i)
interleaved_made i h slots s t =
    let all = recursion_from_All IsSound i.values s in
    let each = recursion_from_All IsSound i.slots t in
    subst IsSound (rolls-Interleave i) (every_made-Column IsSoundLayer (Column-F.Interleave i)
    (Column-F.Interleave record { dtype = i.dtype; selectors = i.selectors; values = with_proofs i.values all; slots = with_proofs i.slots each })
    (ap (λ xs. Column-F.Interleave record { dtype = i.dtype; selectors = i.selectors; values = xs; slots = map (λ e. e.0) (with_proofs i.slots each) }) (with_proofs_of i.values all)
    ∙ ap (λ ys. Column-F.Interleave record { dtype = i.dtype; selectors = i.selectors; values = i.values; slots = ys }) (with_proofs_of i.slots each)) (h, slots))

pub total_joined : (cs : List Column) → total (map len_of cs) ≡ length (joined (map rows_of cs))
total_joined [] = refl
total_joined (x ∷ cs) = omega (arith, total_joined cs, length-append (rows_of x) (joined (map rows_of cs)))

-- the columns below a plain one are plain
all_plain : (xs : List Column) → all_true (map is_plain xs) ≡ true → AllByRecursion IsPlain xs
all_plain [] all = tt
all_plain (x ∷ xs) all =
    let both = and_parts (is_plain x) (all_true (map is_plain xs)) all in
    (both.0, all_plain xs both.1)

pub chunks_plain : (c : Chunked Column) → IsPlain (column.Chunked c) → All IsPlain c.chunks
chunks_plain c plain = All-from_recursion IsPlain c.chunks (all_plain c.chunks (sym (plain_chunked c) ∙ plain))

pub interleaved_plain : (i : Interleave Column) → IsPlain (column.Interleave i) → All IsPlain i.values
interleaved_plain i plain = All-from_recursion IsPlain i.values (all_plain i.values (sym (plain_interleave i) ∙ plain))

pub both_plain : (x : Excepted Column) → IsPlain (column.Excepted x) → IsPlain x.base × IsPlain x.values
both_plain x plain = and_parts (is_plain x.base) (is_plain x.values) (sym (plain_excepted x) ∙ plain)

-- a read costs something
abbrev CostsSome : Column → Type 0
CostsSome x = 1 ≤ point_cost x

some_layer : (y : Column-F ((x : Column) × CostsSome x)) → CostsSome (roll-Column (map-Column ((x : Column) × CostsSome x) Column (λ e. e.0) y))
some_layer (Column-F.Flat rows) = subst CostsSome (sym (rolls-Flat rows)) (omega (arith, point_flat rows))
some_layer (Column-F.Chunked c) =
    let whole : Chunked Column = record { dtype = c.dtype; boundaries = c.boundaries; chunks = map (λ e. e.0) c.chunks; slots = map (λ e. e.0) c.slots } in
    subst CostsSome (sym (rolls-Chunked whole)) (omega (arith, point_chunked whole, search_bound_positive (length (map point_cost whole.chunks))))
some_layer (Column-F.Patched p) =
    let whole : Patched Column = record { inner = p.inner.0; lanes = p.lanes; slots = map (λ e. e.0) p.slots } in
    subst CostsSome (sym (rolls-Patched whole)) (omega (arith, point_patched whole))
some_layer (Column-F.Excepted x) =
    let whole : Excepted Column = record { base = x.base.0; index = x.index; values = x.values.0; slots = map (λ e. e.0) x.slots } in
    subst CostsSome (sym (rolls-Excepted whole)) (omega (arith, point_excepted whole, x.base.1))
some_layer (Column-F.Interleave i) =
    let whole : Interleave Column = record { dtype = i.dtype; selectors = i.selectors; values = map (λ e. e.0) i.values; slots = map (λ e. e.0) i.slots } in
    subst CostsSome (sym (rolls-Interleave whole)) (omega (arith, point_interleave whole))

pub point_least : (x : Column) → 1 ≤ point_cost x
point_least = ind-Column CostsSome (λ x y e. subst (λ l. CostsSome (roll-Column l)) e (some_layer y))

-- each column is plain: no encoding is nested
all_known : (es : List ((x : Column) × IsPlain x)) → all_true (map is_plain (map (λ e. e.0) es)) ≡ true
all_known [] = refl
all_known (e ∷ es) = and_from (is_plain e.0) (all_true (map is_plain (map (λ e. e.0) es))) e.1 (all_known es)

plain_layer : (y : Column-F ((x : Column) × IsPlain x)) → IsPlain (roll-Column (map-Column ((x : Column) × IsPlain x) Column (λ e. e.0) y))
plain_layer (Column-F.Flat rows) = subst IsPlain (sym (rolls-Flat rows)) (plain_flat rows)
plain_layer (Column-F.Chunked c) =
    let whole : Chunked Column = record { dtype = c.dtype; boundaries = c.boundaries; chunks = map (λ e. e.0) c.chunks; slots = map (λ e. e.0) c.slots } in
    subst IsPlain (sym (rolls-Chunked whole)) (plain_chunked whole ∙ all_known c.chunks)
plain_layer (Column-F.Patched p) =
    let whole : Patched Column = record { inner = p.inner.0; lanes = p.lanes; slots = map (λ e. e.0) p.slots } in
    subst IsPlain (sym (rolls-Patched whole)) (plain_patched whole ∙ p.inner.1)
plain_layer (Column-F.Excepted x) =
    let whole : Excepted Column = record { base = x.base.0; index = x.index; values = x.values.0; slots = map (λ e. e.0) x.slots } in
    subst IsPlain (sym (rolls-Excepted whole)) (plain_excepted whole ∙ and_from (is_plain x.base.0) (is_plain x.values.0) x.base.1 x.values.1)
plain_layer (Column-F.Interleave i) =
    let whole : Interleave Column = record { dtype = i.dtype; selectors = i.selectors; values = map (λ e. e.0) i.values; slots = map (λ e. e.0) i.slots } in
    subst IsPlain (sym (rolls-Interleave whole)) (plain_interleave whole ∙ all_known i.values)

pub each_plain : (x : Column) → IsPlain x
each_plain = ind-Column IsPlain (λ x y e. subst (λ l. IsPlain (roll-Column l)) e (plain_layer y))
