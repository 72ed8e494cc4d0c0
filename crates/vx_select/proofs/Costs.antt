-- What rows of parts cost together.
use Rattle.std.proofs.Common.{arith, refl, sym, ◌∙◌, ap, subst, ◌≡◌, ◌≤◌, ◌<◌, ◌+◌, ◌*◌, ◌==◌, ℕ, Bool, true, false, cond, nat_lt, List, [], ◌∷◌, ◌++◌, map, length, get_or, take}
use Rattle.std.proofs.lemmas.Bool.Decides.{nat_tests}
use Rattle.std.proofs.lemmas.List.{take_more, map-append, get_or-map}
use Rattle.std.proofs.lemmas.List.{take-map}
use Rattle.std.proofs.Math.Nat.{mul-le-mul, mul-le-mul_left, le_refl}
use Rattle.std.specs.List.{filter}
use Rattle.std.specs.List.Sorted.{IsStrictlyIncreasing}
use Rattle.vx_chunks.proofs.Sums.{total-append, total-take_le}
use Rattle.vx_search.specs.Places.{search_bound}
use Rattle.vx_patches.specs.Search.{search_cost}
use Rattle.vx_chunks.specs.Bounds.{total}
use Rattle.vx_base.specs.Column.{Flat}
use Rattle.vx_column.specs.Columns.{point_cost, lane_cost, select_bound}
use Rattle.vx_job.specs.Rows.{greatest, lane_reads}
use Rattle.vx_column.specs.declared.column.Column.{Column}
use Rattle.vx_column.specs.declared.chunked.Chunked.{Chunked}
use Rattle.vx_column.specs.declared.patched.Patched.{Patched}
use Rattle.vx_column.specs.declared.excepted.Excepted.{Excepted}
use Rattle.vx_column.specs.declared.interleave.Interleave.{Interleave}
use Rattle.vx_column.specs.declared.column.Column.TheVariants as column
use Rattle.vx_column.proofs.Cuts.{greatest_at, point_cost_is}
use Rattle.vx_column.proofs.Layers.{point_flat, lane_flat, lane_chunked, point_patched, lane_patched, point_excepted, lane_excepted, point_interleave, lane_interleave}
use Rattle.vx_select.specs.Spots.{Spot, wanted}
use Rattle.vx_select.proofs.Rising.{total_at_most}

-- the lane offsets and exceptions of the parts of these numbers
abbrev pub lanes_at : List Column → List ℕ → ℕ
lanes_at parts numbers = total (map (λ n. get_or (map lane_cost parts) n 0) numbers)

lanes_more : (parts : List Column) (numbers : List ℕ) (k number : ℕ) (x : Column) → k < length numbers → number ≡ get_or numbers k 0 → number < length parts → x ≡ get_or parts number x →
    lanes_at parts (take (k + 1) numbers) ≡ lanes_at parts (take k numbers) + lane_cost x
lanes_more parts numbers k number x h e within at =
    let f : ℕ → ℕ = λ n. get_or (map lane_cost parts) n 0 in
    let more : take (k + 1) numbers ≡ take k numbers ++ number ∷ [] = take_more numbers k 0 h ∙ ap (λ n. take k numbers ++ n ∷ []) (sym e) in
    let here : f number ≡ lane_cost x = get_or-map lane_cost parts number x 0 within ∙ ap lane_cost (sym at) in
    let one : total (f number ∷ []) ≡ lane_cost x = omega (arith, here) in
    ap (λ ns. total (map f ns)) more ∙ ap total (map-append f (take k numbers) (number ∷ [])) ∙ total-append (map f (take k numbers)) (map f (number ∷ []))
    ∙ ap (λ n. total (map f (take k numbers)) + n) one

lanes_most : (parts : List Column) (numbers : List ℕ) (k : ℕ) → IsStrictlyIncreasing numbers → lanes_at parts (take k numbers) ≤ total (map lane_cost parts)
lanes_most parts numbers k up =
    let f : ℕ → ℕ = λ n. get_or (map lane_cost parts) n 0 in
    omega (arith, ap total (take-map f k numbers), total-take_le (map f numbers) k, total_at_most (map lane_cost parts) numbers up)

-- how many spots are in the lists before k
abbrev pub before : ℕ → List Spot → ℕ
before k [] = 0
before k (s ∷ spots) = cond (nat_lt s.0 k) 1 0 + before k spots

length_wanted : (k : ℕ) (s : Spot) (spots : List Spot) → length (wanted k (s ∷ spots)) ≡ cond (s.0 == k) 1 0 + length (wanted k spots)
length_wanted k s spots = by_test (s.0 == k)
  where
    by_test : (b : Bool) → length (map (λ (x : Spot). x.1) (cond b (s ∷ filter (λ (x : Spot). x.0 == k) spots) (filter (λ (x : Spot). x.0 == k) spots))) ≡ cond b 1 0 + length (wanted k spots)
    by_test true = omega arith
    by_test false = omega arith

pub before_more : (k : ℕ) (spots : List Spot) → before (k + 1) spots ≡ before k spots + length (wanted k spots)
before_more k [] = refl
before_more k (s ∷ spots) = omega (arith, before_more k spots, length_wanted k s spots, one s.0 k)
  where
    one : (a k : ℕ) → cond (nat_lt a (k + 1)) 1 0 ≡ cond (nat_lt a k) 1 0 + cond (a == k) 1 0
    one a k = grind (arith, nat_tests)

pub before_most : (k : ℕ) (spots : List Spot) → before k spots ≤ length spots
before_most k [] = omega arith
before_most k (s ∷ spots) = omega (arith, before_most k spots, one (nat_lt s.0 k))
  where
    one : (b : Bool) → cond b 1 0 ≤ 1
    one true = omega arith
    one false = omega arith

pub before_none : (spots : List Spot) → before 0 spots ≡ 0
before_none [] = refl
before_none (s ∷ spots) = omega (arith, before_none spots, one s.0)
  where
    one : (a : ℕ) → cond (nat_lt a 0) 1 0 ≤ 0
    one a = grind (arith, nat_tests)

-- what is wanted of two lists
pub two_most : (spots : List Spot) → length (wanted 0 spots) + length (wanted 1 spots) ≤ length spots
two_most spots = omega (arith, before_more 0 spots, before_more 1 spots, before_most 2 spots)

step : (old mid new a b p most s t : ℕ) → mid ≤ old + (8 * a * most + s) → new ≤ mid + (8 * b * p + t) → p ≤ most → new ≤ old + (8 * (a + b) * most + (s + t))
step old mid new a b p most s t h k l = omega (arith, h, k, mul-le-mul_left (8 * b) l)

-- one part more is asked
pub parts_next : (parts : List Column) (numbers : List ℕ) (among : List Spot) (k number : ℕ) (x : Column) (old mid new n : ℕ) →
    k < length numbers → number ≡ get_or numbers k 0 → number < length parts → x ≡ get_or parts number x → n ≡ length (wanted k among) →
    mid ≤ old + (8 * before k among * greatest (map point_cost parts) + lanes_at parts (take k numbers)) → new ≤ mid + select_bound x n →
    new ≤ old + (8 * before (k + 1) among * greatest (map point_cost parts) + lanes_at parts (take (k + 1) numbers))
parts_next parts numbers among k number x old mid new n h e within at long rise read =
    let most = greatest (map point_cost parts) in
    let next = step old mid new (before k among) n (point_cost x) most (lanes_at parts (take k numbers)) (lane_cost x) rise read (greatest_at point_cost parts number x within at) in
    subst (λ m. new ≤ old + (8 * m * most + lanes_at parts (take (k + 1) numbers))) (sym (before_more k among ∙ ap (λ m. before k among + m) (sym long)))
    (subst (λ m. new ≤ old + (8 * (before k among + n) * most + m)) (sym (lanes_more parts numbers k number x h e within at)) next)

-- the parts that were asked cost no more than all
pub parts_bound : (parts : List Column) (numbers : List ℕ) (among : List Spot) (k m old new : ℕ) → IsStrictlyIncreasing numbers → length among ≡ m →
    new ≤ old + (8 * before k among * greatest (map point_cost parts) + lanes_at parts (take k numbers)) →
    new ≤ old + (8 * m * greatest (map point_cost parts) + total (map lane_cost parts))
parts_bound parts numbers among k m old new up long rise =
    let most = greatest (map point_cost parts) in
    let few : 8 * before k among ≤ 8 * m = omega (arith, before_most k among, long) in
    omega (arith, rise, lanes_most parts numbers k up, mul-le-mul few (le_refl most))

pub flat_bound : (rows : Flat) (n old new : ℕ) → new ≤ old + n → new ≤ old + select_bound (column.Flat rows) n
flat_bound rows n old new rise = omega (arith, rise, ap (λ p. 8 * n * p) (point_flat rows), lane_flat rows)

pub chunked_bound : (c : Chunked Column) (parts : List Column) (n m old mid new : ℕ) → parts ≡ c.chunks → m ≡ n → mid ≤ old + n * search_bound (length c.chunks + 1) →
    new ≤ mid + (8 * m * greatest (map point_cost parts) + total (map lane_cost parts)) → new ≤ old + select_bound (column.Chunked c) n
chunked_bound c parts n m old mid new same long search read =
    let here : new ≤ mid + (8 * n * greatest (map point_cost c.chunks) + total (map lane_cost c.chunks)) =
    subst (λ xs. new ≤ mid + (8 * n * greatest (map point_cost xs) + total (map lane_cost xs))) same
    (subst (λ k. new ≤ mid + (8 * k * greatest (map point_cost parts) + total (map lane_cost parts))) long read) in
    omega (arith, search, here, ap (λ p. 8 * n * p) (point_cost_is c), lane_chunked c)

pub interleaved_bound : (i : Interleave Column) (parts : List Column) (n m old mid new : ℕ) → parts ≡ i.values → m ≡ n → mid ≤ old + n * 2 →
    new ≤ mid + (8 * m * greatest (map point_cost parts) + total (map lane_cost parts)) → new ≤ old + select_bound (column.Interleave i) n
interleaved_bound i parts n m old mid new same long search read =
    let here : new ≤ mid + (8 * n * greatest (map point_cost i.values) + total (map lane_cost i.values)) =
    subst (λ xs. new ≤ mid + (8 * n * greatest (map point_cost xs) + total (map lane_cost xs))) same
    (subst (λ k. new ≤ mid + (8 * k * greatest (map point_cost parts) + total (map lane_cost parts))) long read) in
    omega (arith, search, here, ap (λ p. 8 * n * p) (point_interleave i), lane_interleave i)

pub excepted_bound : (x : Excepted Column) (n b v old m1 m2 new : ℕ) → b + v ≤ n → m1 ≤ old + n * search_cost x.index → m2 ≤ m1 + select_bound x.base b → new ≤ m2 + select_bound x.values v →
    new ≤ old + select_bound (column.Excepted x) n
excepted_bound x n b v old m1 m2 new long search base values =
    let few_b : 8 * b ≤ 8 * n = omega arith in
    let few_v : 8 * v ≤ 8 * n = omega arith in
    omega (arith, search, base, values, ap (λ p. 8 * n * p) (point_excepted x), lane_excepted x, mul-le-mul few_b (le_refl (point_cost x.base)), mul-le-mul few_v (le_refl (point_cost x.values)))

pub patched_bound : (p : Patched Column) (n old mid new : ℕ) → mid ≤ old + select_bound p.inner n → new ≤ mid + n * lane_reads p.lanes.n_lanes → new ≤ old + select_bound (column.Patched p) n
patched_bound p n old mid new inner laid =
    omega (arith, inner, laid, ap (λ c. 8 * n * c) (point_patched p), lane_patched p)
