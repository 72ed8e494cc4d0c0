-- Lists that were touched, by rising numbers.
use Rattle.std.proofs.Common.{arith, refl, sym, ◌∙◌, ap, subst, ◌≡◌, ◌≤◌, ◌<◌, ◌+◌, ◌-◌, ◌⊎◌, inl, inr, ℕ, zero, suc, List, [], ◌∷◌, map, length, get_or, take, None, slice_index, Ok, Err, Contains}
use Rattle.std.proofs.lemmas.List.{length-map, get_or-map, get_or_default}
use Rattle.std.proofs.lemmas.Simd.{map-map}
use Rattle.std.specs.List.{All, range_with_len}
use Rattle.std.proofs.lemmas.List.Sorted.{searched}
use Rattle.std.specs.List.Sorted.{IsBinarySearchResult}
use Rattle.std.specs.Ordering.{nat_cmp}
use Rattle.std.proofs.lemmas.List.FromFn.{length-range_with_len, get_or-range_with_len}
use Rattle.std.specs.List.Sorted.{IsStrictlyIncreasing}
use Rattle.vx_chunks.specs.Bounds.{total}
use Rattle.vx_chunks.proofs.Sums.{total-take_le, total-take_mono}
use Rattle.vx_job.specs.Rows.{Rows, interleaved}
use Rattle.vx_select.specs.Spots.{Lists, Spot, IsThere, AreBelow, AreTouched, named_by}

-- the lists of these numbers
abbrev pub lists_at : Lists → List ℕ → Lists
lists_at values numbers = map (λ n. get_or values n []) numbers

-- the numbers rise strictly, and none is below the least
abbrev RiseFrom : ℕ → List ℕ → Type 0
RiseFrom least [] = Unit {0}
RiseFrom least (n ∷ ns) = (least ≤ n) × RiseFrom (n + 1) ns

rise_from : (least : ℕ) (ns : List ℕ) → (0 < length ns → least ≤ slice_index ns 0) → IsStrictlyIncreasing ns → RiseFrom least ns
rise_from least [] h up = tt
rise_from least (n ∷ ns) h up = (h (omega arith), rise_from (n + 1) ns first later)
  where
    first : 0 < length ns → n + 1 ≤ slice_index ns 0
    first some = omega (arith, up 0 (omega arith))

    later : IsStrictlyIncreasing ns
    later k within =
        let e : suc k + 1 ≡ suc (k + 1) = omega arith in
        subst (λ m. slice_index (n ∷ ns) (suc k) < slice_index (n ∷ ns) m) e (up (suc k) (omega arith))

none_front : (n : ℕ) → total (take n []) ≡ 0
none_front zero = refl
none_front (suc n) = refl

none_at : (n : ℕ) → (let none : List ℕ = [] in get_or none n 0) ≡ 0
none_at zero = refl
none_at (suc n) = refl

front_more : (lens : List ℕ) (n : ℕ) → total (take (n + 1) lens) ≡ total (take n lens) + get_or lens n 0
front_more [] n = omega (arith, none_front (n + 1), none_front n, none_at n)
front_more (x ∷ lens) zero = omega arith
front_more (x ∷ lens) (suc n) =
    let e : suc n + 1 ≡ suc (n + 1) = omega arith in
    ap (λ m. total (take m (x ∷ lens))) e ∙ omega (arith, front_more lens n)

rising_total : (lens : List ℕ) (least : ℕ) (ns : List ℕ) → RiseFrom least ns → total (take least lens) + total (map (λ n. get_or lens n 0) ns) ≤ total lens
rising_total lens least [] rise = omega (arith, total-take_le lens least)
rising_total lens least (n ∷ ns) rise =
    omega (arith, rising_total lens (n + 1) ns rise.1, front_more lens n, total-take_mono lens least n rise.0)

-- each of several numbers is counted once
pub total_at_most : (lens ns : List ℕ) → IsStrictlyIncreasing ns → total (map (λ n. get_or lens n 0) ns) ≤ total lens
total_at_most lens ns up = omega (arith, rising_total lens 0 ns (rise_from 0 ns (λ some. omega arith) up))

map_alike : {A B : Type 0} (f g : A → B) (xs : List A) → All (λ x. f x ≡ g x) xs → map f xs ≡ map g xs
map_alike f g [] same = refl
map_alike f g (x ∷ xs) same =
    let here = same 0 x (omega arith) in
    ap (λ y. y ∷ map f xs) here ∙ ap (λ ys. g x ∷ ys) (map_alike f g xs (λ k d h. same (suc k) d (omega arith)))

pub list_here : (values : Lists) (numbers : List ℕ) (k : ℕ) → k < length numbers → get_or (lists_at values numbers) k [] ≡ get_or values (get_or numbers k 0) []
list_here values numbers k h = get_or-map (λ n. get_or values n []) numbers k 0 [] h

-- a spot, as it was named
spot_named : (numbers : List ℕ) (spots among : List Spot) (i : ℕ) (d : Spot) → map (named_by numbers) among ≡ spots → i < length among → get_or spots i d ≡ named_by numbers (get_or among i d)
spot_named numbers spots among i d same h = ap (λ (ss : List Spot). get_or ss i d) (sym same) ∙ get_or-map (named_by numbers) among i d d h

pub among_long : (count : ℕ) (spots : List Spot) (numbers : List ℕ) (among : List Spot) → AreTouched count spots numbers among → length among ≡ length spots
among_long count spots numbers among touched = sym (length-map among (named_by numbers)) ∙ ap length touched.same

-- the spots are there among the lists that were touched
pub among_there : (values : Lists) (count : ℕ) (spots : List Spot) (numbers : List ℕ) (among : List Spot) → AreTouched count spots numbers among →
    All (IsThere values) spots → All (IsThere (lists_at values numbers)) among
among_there values count spots numbers among touched there = λ i d h.
    let a = get_or among i d in
    let was = subst (IsThere values) (spot_named numbers spots among i d touched.same h) (there i d (omega (arith, h, among_long count spots numbers among touched))) in
    let inside = touched.there i d h in
    (omega (arith, inside, length-map numbers (λ n. get_or values n [])), subst (λ (r : Rows). a.1 < length r) (sym (list_here values numbers a.0 inside)) was.1)

-- and name the same rows
pub among_same : (values : Lists) (count : ℕ) (spots : List Spot) (numbers : List ℕ) (among : List Spot) → AreTouched count spots numbers among →
    interleaved (lists_at values numbers) among ≡ interleaved values spots
among_same values count spots numbers among touched =
    map_alike (λ (a : Spot). get_or (get_or (lists_at values numbers) a.0 []) a.1 None) (λ (a : Spot). get_or (get_or values (get_or numbers a.0 0) []) a.1 None) among
    (λ i d h. let a = get_or among i d in ap (λ (r : Rows). get_or r a.1 None) (list_here values numbers a.0 (touched.there i d h)))
    ∙ sym (map-map (λ (s : Spot). get_or (get_or values s.0 []) s.1 None) (named_by numbers) among) ∙ ap (interleaved values) touched.same

climbs : (xs : List ℕ) → IsStrictlyIncreasing xs → (i n : ℕ) → i + n < length xs → get_or xs i 0 ≤ get_or xs (i + n) 0
climbs xs up i zero h = let e : i + 0 ≡ i = omega arith in omega (arith, ap (λ k. get_or xs k 0) e)
climbs xs up i (suc n) h =
    let e : i + suc n ≡ i + n + 1 = omega arith in
    omega (arith, ap (λ k. get_or xs k 0) e, up (i + n) (omega arith), climbs xs up i n (omega arith))

never_falls : (xs : List ℕ) → IsStrictlyIncreasing xs → (i j : ℕ) → i ≤ j → j < length xs → get_or xs i 0 ≤ get_or xs j 0
never_falls xs up i j o h =
    let e : i + (j - i) ≡ j = omega arith in
    subst (λ k. get_or xs i 0 ≤ get_or xs k 0) e (climbs xs up i (j - i) (omega arith))

-- a search finds what is there
pub not_missing : (xs : List ℕ) (x i : ℕ) → IsStrictlyIncreasing xs → IsBinarySearchResult (λ y. nat_cmp y x) xs (Err i) → Contains xs x → ⊥
not_missing xs x i up missed has =
    let told = searched xs x (Err i) missed (never_falls xs up) in
    let at : get_or xs has.0 0 ≡ x = get_or_default xs has.0 0 x has.1 ∙ has.2 in
    by_order (order has.0 i) told at
  where
    order : (a b : ℕ) → (a < b) ⊎ (b ≤ a)
    order a b = grind arith

    by_order : (has.0 < i) ⊎ (i ≤ has.0) → (i ≤ length xs) × ((k : ℕ) → k < i → get_or xs k 0 < x) × ((k : ℕ) → i ≤ k → k < length xs → x < get_or xs k 0) → get_or xs has.0 0 ≡ x → ⊥
    by_order (inl less) t at = omega (arith, t.1 has.0 less, at)
    by_order (inr more) t at = omega (arith, t.2 has.0 more has.1, at)

-- where a number of a list is
pub found : (xs : List ℕ) (x i : ℕ) → IsStrictlyIncreasing xs → IsBinarySearchResult (λ y. nat_cmp y x) xs (Ok i) → (i < length xs) × (get_or xs i 0 ≡ x)
found xs x i up hit = searched xs x (Ok i) hit (never_falls xs up)

range_next : (a n i : ℕ) → i + 1 < n → get_or (range_with_len a n) i 0 < get_or (range_with_len a n) (i + 1) 0
range_next a n i h = omega (arith, get_or-range_with_len a n i 0 (omega arith), get_or-range_with_len a n (i + 1) 0 h)

named_all : (count : ℕ) (spots : List Spot) → All (λ (s : Spot). s.0 < count) spots → map (named_by (range_with_len 0 count)) spots ≡ spots
named_all count [] all = refl
named_all count (s ∷ spots) all =
    let here : get_or (range_with_len 0 count) s.0 0 ≡ s.0 = get_or-range_with_len 0 count s.0 0 (all 0 s (omega arith)) ∙ omega arith in
    ap (λ (k : ℕ). (k, s.1) ∷ map (named_by (range_with_len 0 count)) spots) here ∙ ap (λ (ss : List Spot). s ∷ ss) (named_all count spots (λ k d h. all (suc k) d (omega arith)))

-- all lists are touched
pub all_touched : (count : ℕ) (spots : List Spot) (numbers : List ℕ) → numbers ≡ range_with_len 0 count → All (λ (s : Spot). s.0 < count) spots → AreTouched count spots numbers spots
all_touched count spots numbers e all = subst (λ (ns : List ℕ). AreTouched count spots ns spots) (sym e) (record {
  rising = λ k h. range_next 0 count k (omega (arith, h, length-range_with_len 0 count));
  below = λ k d h.
      let within : k < count = omega (arith, h, length-range_with_len 0 count) in
      omega (arith, within, get_or-range_with_len 0 count k d within);
  there = λ k d h. omega (arith, all k d h, length-range_with_len 0 count);
  same = named_all count spots all;
})

-- those that have a spot
pub own_below : (count : ℕ) (spots : List Spot) (numbers : List ℕ) → All (λ (s : Spot). s.0 < count) spots → All (Contains (map (λ (s : Spot). s.0) spots)) numbers → AreBelow count numbers
own_below count spots numbers all own = λ k d h.
    let n = get_or numbers k d in
    let has = own k d h in
    let zero_spot : Spot = (0, 0) in
    let inside : has.0 < length spots = omega (arith, has.1, length-map spots (λ (s : Spot). s.0)) in
    let at : get_or (map (λ (s : Spot). s.0) spots) has.0 n ≡ (get_or spots has.0 zero_spot).0 = get_or-map (λ (s : Spot). s.0) spots has.0 zero_spot n inside in
    omega (arith, has.2, at, all has.0 zero_spot inside)

pub list_held : (spots : List Spot) (k : ℕ) (d : Spot) → k < length spots → Contains (map (λ (s : Spot). s.0) spots) (get_or spots k d).0
list_held spots k d h = (k, omega (arith, h, length-map spots (λ (s : Spot). s.0)), get_or-map (λ (s : Spot). s.0) spots k d (get_or spots k d).0 h)
