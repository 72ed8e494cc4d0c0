-- Columns with exceptions: their rows, reads and cuts.
use Rattle.std.proofs.Common.{◌≡◌, ℕ, zero, suc, ◌+◌, ◌-◌, ◌*◌, ◌≤◌, ◌<◌, List, [], ◌∷◌, take, drop, length, get_or, Option, Some, None, refl, sym, ◌∙◌, ap, subst, arith}
use Rattle.std.specs.Option.{unwrap_or}
use Rattle.std.specs.List.{slice_range}
use Rattle.std.proofs.lemmas.Bool.{and_parts, and_from}
use Rattle.std.proofs.lemmas.List.{length-take-le, length-drop, length-take}
use Rattle.std.proofs.Math.Nat.{mul-le-mul, le_refl}
use Rattle.vx_rows.specs.declared.value.Value.{Value}
use Rattle.vx_base.specs.Ranges.{ends_cut}
use Rattle.vx_search.specs.declared.result.SearchResult.TheVariants.{Found, NotFound}
use Rattle.vx_patches.specs.Places.{Index, rows_of as places_of}
use Rattle.vx_patches.specs.Search.{place_among, search_cost}
use Rattle.vx_patches.specs.Pairs.{pairs_by, pairs_inside, value_at}
use Rattle.std.specs.declared.ops.Range.{Range}
use Rattle.vx_patches.specs.Slices.{rows_inside, cut_cost as places_cut_cost, IsKept, IsSliceOf as IsPlaceSlice}
use Rattle.vx_column.specs.Excepts.{IsKeptOf}
use Rattle.vx_patches.proofs.Columns.{value_inside, value_of_found, value_of_missing, none_inside_pairs, slice_places, slice_pairs, slice_number, slice_front, slice_back, slice_costs}
use Rattle.vx_job.specs.Kinds.{AreExceptionKinds}
use Rattle.vx_column.specs.Columns.{rows_of, type_of, len_of, point_cost, cut_cost, lane_cost, is_plain, IsSound, IsSliceOf}
use Rattle.vx_job.specs.Rows.{Rows, rows_below}
use Rattle.vx_column.specs.declared.excepted.Excepted.{Excepted}
use Rattle.vx_column.specs.declared.column.Column.{Column}
use Rattle.vx_column.specs.declared.column.Column.TheVariants as column
use Rattle.vx_column.proofs.Layers.{rows_excepted, type_excepted, point_excepted, cut_excepted, lane_excepted, plain_excepted, exceptions_here}
use Rattle.vx_column.proofs.Lists.{ends_cut_within}

-- ---- rows under pairs

pub below_length : (pairs : List (ℕ × Option Value)) (n : ℕ) (rows : Rows) → length (rows_below pairs n rows) ≡ length rows
below_length pairs n [] = refl
below_length pairs n (r ∷ rows) = ap suc (below_length pairs (n + 1) rows)

pub below_at : (pairs : List (ℕ × Option Value)) (n : ℕ) (rows : Rows) (i : ℕ) → i < length rows → get_or (rows_below pairs n rows) i None ≡ unwrap_or (value_at (n + i) pairs) (get_or rows i None)
below_at pairs n [] i h = absurd (omega arith)
below_at pairs n (r ∷ rows) zero h =
    let here : n ≡ n + 0 = omega arith in
    ap (λ k. unwrap_or (value_at k pairs) r) here
below_at pairs n (r ∷ rows) (suc i) h =
    let next : n + 1 + i ≡ n + suc i = omega arith in
    below_at pairs (n + 1) rows i (omega arith) ∙ ap (λ k. unwrap_or (value_at k pairs) (get_or rows i None)) next

below_first : (pairs : List (ℕ × Option Value)) (rows : Rows) (i : ℕ) → i < length rows → get_or (rows_below pairs 0 rows) i None ≡ unwrap_or (value_at i pairs) (get_or rows i None)
below_first pairs rows i h =
    let here : 0 + i ≡ i = omega arith in
    below_at pairs 0 rows i h ∙ ap (λ n. unwrap_or (value_at n pairs) (get_or rows i None)) here

-- pairs that give the same values give the same rows
below_same : (ps qs : List (ℕ × Option Value)) (n m : ℕ) (rows : Rows) → ((i : ℕ) → i < length rows → value_at (n + i) ps ≡ value_at (m + i) qs) → rows_below ps n rows ≡ rows_below qs m rows
below_same ps qs n m [] h = refl
below_same ps qs n m (r ∷ rows) h =
    let here : value_at n ps ≡ value_at m qs =
    let a : n ≡ n + 0 = omega arith in
    let b : m + 0 ≡ m = omega arith in
    ap (λ k. value_at k ps) a ∙ h 0 (omega arith) ∙ ap (λ k. value_at k qs) b in
    let rest = below_same ps qs (n + 1) (m + 1) rows (λ i l.
    let a : n + 1 + i ≡ n + suc i = omega arith in
    let b : m + suc i ≡ m + 1 + i = omega arith in
    ap (λ k. value_at k ps) a ∙ h (suc i) (omega arith) ∙ ap (λ k. value_at k qs) b) in
    ap (λ (o : Option (Option Value)). unwrap_or o r ∷ rows_below ps (n + 1) rows) here ∙ ap (λ (rs : Rows). unwrap_or (value_at m qs) r ∷ rs) rest

below_drop : (pairs : List (ℕ × Option Value)) (n k : ℕ) (rows : Rows) → drop k (rows_below pairs n rows) ≡ rows_below pairs (n + k) (drop k rows)
below_drop pairs n zero rows =
    let here : n ≡ n + 0 = omega arith in
    ap (λ m. rows_below pairs m rows) here
below_drop pairs n (suc k) [] = refl
below_drop pairs n (suc k) (r ∷ rows) =
    let next : n + 1 + k ≡ n + suc k = omega arith in
    below_drop pairs (n + 1) k rows ∙ ap (λ m. rows_below pairs m (drop k rows)) next

below_take : (pairs : List (ℕ × Option Value)) (n k : ℕ) (rows : Rows) → take k (rows_below pairs n rows) ≡ rows_below pairs n (take k rows)
below_take pairs n zero rows = refl
below_take pairs n (suc k) [] = refl
below_take pairs n (suc k) (r ∷ rows) = ap (λ (rs : Rows). unwrap_or (value_at n pairs) r ∷ rs) (below_take pairs (n + 1) k rows)

below_range : (pairs : List (ℕ × Option Value)) (start end : ℕ) (rows : Rows) → slice_range (rows_below pairs 0 rows) start end ≡ rows_below pairs start (slice_range rows start end)
below_range pairs start end rows =
    let here : 0 + start ≡ start = omega arith in
    ap (take (end - start)) (below_drop pairs 0 start rows ∙ ap (λ n. rows_below pairs n (drop start rows)) here) ∙ below_take pairs start (end - start) (drop start rows)

-- the rows of a range under the pairs inside
below_inside : (pairs : List (ℕ × Option Value)) (start end : ℕ) (rows : Rows) → rows_below (pairs_inside start end pairs) 0 (slice_range rows start end) ≡ slice_range (rows_below pairs 0 rows) start end
below_inside pairs start end rows =
    below_same (pairs_inside start end pairs) pairs 0 start (slice_range rows start end)
    (λ i l.
    let here : 0 + i ≡ i = omega arith in
    ap (λ n. value_at n (pairs_inside start end pairs)) here ∙ value_inside start end i pairs (omega (arith, length-take (end - start) (drop start rows))))
    ∙ sym (below_range pairs start end rows)

below_none : (n : ℕ) (rows : Rows) → rows_below [] n rows ≡ rows
below_none n [] = refl
below_none n (r ∷ rows) = ap (λ (rs : Rows). r ∷ rs) (below_none (n + 1) rows)

-- ---- lengths

range_length : {A : Type 0} (xs : List A) (start end : ℕ) → start ≤ end → end ≤ length xs → length (slice_range xs start end) ≡ end - start
range_length xs start end h k = length-take-le (end - start) (drop start xs) (omega (arith, length-drop start xs))

pub len_excepted : (x : Excepted Column) → len_of (column.Excepted x) ≡ len_of x.base
len_excepted x = ap length (rows_excepted x) ∙ below_length (pairs_by x.index (rows_of x.values)) 0 (rows_of x.base)

pub index_len : (x : Excepted Column) → IsSound (column.Excepted x) → x.index.len ≡ len_of (column.Excepted x)
index_len x s = (exceptions_here x s).as_long ∙ sym (len_excepted x)

pub slice_len : (whole part : Column) (start end : ℕ) → IsSliceOf whole part start end → start ≤ end → end ≤ len_of whole → len_of part ≡ end - start
slice_len whole part start end cut h k = ap length cut.rows ∙ range_length (rows_of whole) start end h k

-- ---- reads

pub row_found : (x : Excepted Column) (at k : ℕ) → IsSound (column.Excepted x) → at < len_of (column.Excepted x) → place_among (places_of x.index) at ≡ Found k →
    (k < len_of x.values) × (get_or (rows_of (column.Excepted x)) at None ≡ get_or (rows_of x.values) k None)
row_found x at k s h e =
    let here = exceptions_here x s in
    let found = value_of_found x.index here.sorted (rows_of x.values) here.paired at k None e in (
      omega (arith, here.paired, found.0),
      ap (λ (rs : Rows). get_or rs at None) (rows_excepted x) ∙ below_first (pairs_by x.index (rows_of x.values)) (rows_of x.base) at (omega (arith, len_excepted x))
          ∙ ap (λ (o : Option (Option Value)). unwrap_or o (get_or (rows_of x.base) at None)) found.1,
    )

pub row_missing : (x : Excepted Column) (at p : ℕ) → IsSound (column.Excepted x) → at < len_of (column.Excepted x) → place_among (places_of x.index) at ≡ NotFound p →
    (at < len_of x.base) × (get_or (rows_of (column.Excepted x)) at None ≡ get_or (rows_of x.base) at None)
row_missing x at p s h e =
    let missing = value_of_missing x.index (rows_of x.values) at p e in (
      omega (arith, len_excepted x),
      ap (λ (rs : Rows). get_or rs at None) (rows_excepted x) ∙ below_first (pairs_by x.index (rows_of x.values)) (rows_of x.base) at (omega (arith, len_excepted x))
          ∙ ap (λ (o : Option (Option Value)). unwrap_or o (get_or (rows_of x.base) at None)) missing,
    )

-- ---- cuts

-- the parts of a cut fit each other
pub cut_kinds : (x : Excepted Column) (index : Index) (start end first last : ℕ) → IsSound (column.Excepted x) → start ≤ end → end ≤ len_of (column.Excepted x) →
    IsPlaceSlice x.index index start end first last → (base values : Column) → IsSliceOf x.base base start end → IsSliceOf x.values values first last →
    AreExceptionKinds index (type_of base) (len_of base) (type_of values) (len_of values)
cut_kinds x index start end first last s h k places base values b v =
    let here = exceptions_here x s in
    let order = slice_places x.index index start end first last here.sorted places in
    let fits : last ≤ len_of x.values = omega (arith, order.1, here.paired) in
    let from_first : first ≤ last = omega (arith, order.0) in
    let within : end ≤ len_of x.base = omega (arith, len_excepted x) in
    let types = here.alike in
    record {
      kind = rw b.dtype here.kind;
      sorted = places.sound;
      as_long = ap (λ (i : Index). i.len) places.is ∙ sym (slice_len x.base base start end b h within);
      paired = slice_len x.values values first last v from_first fits ∙ sym (slice_number x.index index start end first last here.sorted places);
      alike = rw (v.dtype, b.dtype) here.alike;
      nulls = rw (v.dtype, b.dtype) here.nulls;
    }

pub cut_some : (x y : Excepted Column) (index : Index) (start end first last : ℕ) → IsSound (column.Excepted x) → start ≤ end → end ≤ len_of (column.Excepted x) →
    IsPlaceSlice x.index index start end first last → (base values : Column) → IsSliceOf x.base base start end → IsSliceOf x.values values first last →
    y.base ≡ base → y.index ≡ index → y.values ≡ values → IsSound (column.Excepted y) → IsSliceOf (column.Excepted x) (column.Excepted y) start end
cut_some x y index start end first last s h k places base values b v eb ei ev sound =
    let here = exceptions_here x s in
    let costs = slice_costs x.index index start end first last here.sorted places in
    let searches : search_cost y.index ≤ search_cost x.index = omega (arith, ap search_cost ei, costs.0) in
    let cuts : places_cut_cost y.index ≤ places_cut_cost x.index = omega (arith, ap places_cut_cost ei, costs.1) in
    let pairs : pairs_by y.index (rows_of y.values) ≡ pairs_inside start end (pairs_by x.index (rows_of x.values)) =
    ap (λ (i : Index). pairs_by i (rows_of y.values)) ei ∙ ap (λ (c : Column). pairs_by index (rows_of c)) ev ∙ ap (pairs_by index) v.rows
    ∙ slice_pairs x.index index start end first last here.sorted places (rows_of x.values) here.paired in
    record {
      sound = sound;
      dtype = type_excepted y ∙ ap type_of eb ∙ b.dtype ∙ sym (type_excepted x);
      rows = rows_excepted y ∙ ap (λ (ps : List (ℕ × Option Value)). rows_below ps 0 (rows_of y.base)) pairs
          ∙ ap (λ (c : Column). rows_below (pairs_inside start end (pairs_by x.index (rows_of x.values))) 0 (rows_of c)) eb
          ∙ ap (rows_below (pairs_inside start end (pairs_by x.index (rows_of x.values))) 0) b.rows
          ∙ below_inside (pairs_by x.index (rows_of x.values)) start end (rows_of x.base) ∙ ap (λ (rs : Rows). slice_range rs start end) (sym (rows_excepted x));
      point = omega (arith, point_excepted y, point_excepted x, searches, ap point_cost eb, ap point_cost ev, b.point, v.point);
      cut = omega (arith, cut_excepted y, cut_excepted x, cuts, ap cut_cost eb, ap cut_cost ev, b.cut, v.cut);
      lanes = omega (arith, lane_excepted y, lane_excepted x, ap lane_cost eb, ap lane_cost ev, b.lanes, v.lanes);
      plain = λ all.
          let both = and_parts (is_plain x.base) (is_plain x.values) (sym (plain_excepted x) ∙ all) in
          plain_excepted y ∙ and_from (is_plain y.base) (is_plain y.values) (ap is_plain eb ∙ b.plain both.0) (ap is_plain ev ∙ v.plain both.1);
    }

-- where no exception is left, a cut of the base is the cut
pub cut_none : (x : Excepted Column) (start end : ℕ) → IsSound (column.Excepted x) → rows_inside start end (places_of x.index) ≡ [] →
    (base : Column) → IsSliceOf x.base base start end → IsSliceOf (column.Excepted x) base start end
cut_none x start end s none base b =
    let here = exceptions_here x s in
    let pairs = none_inside_pairs x.index (rows_of x.values) start end here.paired none in
    let same : slice_range (rows_of x.base) start end ≡ slice_range (rows_of (column.Excepted x)) start end =
    sym (below_none 0 (slice_range (rows_of x.base) start end)) ∙ ap (λ (ps : List (ℕ × Option Value)). rows_below ps 0 (slice_range (rows_of x.base) start end)) (sym pairs)
    ∙ below_inside (pairs_by x.index (rows_of x.values)) start end (rows_of x.base) ∙ ap (λ (rs : Rows). slice_range rs start end) (sym (rows_excepted x)) in
    record {
      sound = b.sound;
      dtype = b.dtype ∙ sym (type_excepted x);
      rows = b.rows ∙ same;
      point = omega (arith, point_excepted x, b.point);
      cut = omega (arith, cut_excepted x, b.cut);
      lanes = omega (arith, lane_excepted x, b.lanes);
      plain = λ all. b.plain (and_parts (is_plain x.base) (is_plain x.values) (sym (plain_excepted x) ∙ all)).0;
    }

-- what a slice of the places keeps
pub kept_of : (x : Excepted Column) (start end : ℕ) (kept : Option (Index × Range ℕ)) → IsSound (column.Excepted x) → IsKept x.index start end kept → IsKeptOf x start end kept
kept_of x start end None s k = k
kept_of x start end (Some kept) s k =
    let here = exceptions_here x s in
    let order = slice_places x.index kept.0 start end kept.1.start kept.1.end here.sorted k in
    (k, omega (arith, order.0), omega (arith, order.1, here.paired))

-- ---- the ledger

rise_three : (old m1 m2 new c places base values c_base c_values : ℕ) → m1 ≤ old + c * places → m2 ≤ m1 + c_base * base → new ≤ m2 + c_values * values → c_base ≤ c → c_values ≤ c →
    new ≤ old + c * (places + (base + values))
rise_three old m1 m2 new c places base values c_base c_values h1 h2 h3 l1 l2 =
    omega (arith, mul-le-mul l1 (le_refl base), mul-le-mul l2 (le_refl values))

pub rise_base : (x : Excepted Column) (start end old mid new : ℕ) → mid ≤ old + ends_cut start end (len_of (column.Excepted x)) * places_cut_cost x.index →
    new ≤ mid + ends_cut start end (len_of x.base) * cut_cost x.base → new ≤ old + ends_cut start end (len_of (column.Excepted x)) * cut_cost (column.Excepted x)
rise_base x start end old mid new h1 h2 =
    let e = ends_cut start end (len_of (column.Excepted x)) in
    let same : ends_cut start end (len_of x.base) ≤ e =
    ends_cut_within start end (len_of (column.Excepted x)) start end (len_of x.base) (λ z. z) (λ z. z ∙ len_excepted x) in
    subst (λ n. new ≤ old + e * n) (sym (cut_excepted x))
    (rise_three old mid new new e (places_cut_cost x.index) (cut_cost x.base) (cut_cost x.values) (ends_cut start end (len_of x.base)) 0 h1 h2 (omega arith) same (omega arith))

pub rise_values : (x : Excepted Column) (index : Index) (start end first last : ℕ) → IsSound (column.Excepted x) → IsPlaceSlice x.index index start end first last → (old m1 m2 new : ℕ) →
    m1 ≤ old + ends_cut start end (len_of (column.Excepted x)) * places_cut_cost x.index →
    m2 ≤ m1 + ends_cut start end (len_of x.base) * cut_cost x.base → new ≤ m2 + ends_cut first last (len_of x.values) * cut_cost x.values →
    new ≤ old + ends_cut start end (len_of (column.Excepted x)) * cut_cost (column.Excepted x)
rise_values x index start end first last s places old m1 m2 new h1 h2 h3 =
    let here = exceptions_here x s in
    let e = ends_cut start end (len_of (column.Excepted x)) in
    let same : ends_cut start end (len_of x.base) ≤ e =
    ends_cut_within start end (len_of (column.Excepted x)) start end (len_of x.base) (λ z. z) (λ z. z ∙ len_excepted x) in
    let fewer : ends_cut first last (len_of x.values) ≤ e =
    ends_cut_within start end (len_of (column.Excepted x)) first last (len_of x.values)
    (λ z. slice_front x.index index start end first last here.sorted places z)
    (λ z. slice_back x.index index start end first last here.sorted places (z ∙ sym (index_len x s)) ∙ sym here.paired) in
    subst (λ n. new ≤ old + e * n) (sym (cut_excepted x))
    (rise_three old m1 m2 new e (places_cut_cost x.index) (cut_cost x.base) (cut_cost x.values) (ends_cut start end (len_of x.base)) (ends_cut first last (len_of x.values)) h1 h2 h3 same fewer)
