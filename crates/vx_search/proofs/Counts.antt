-- From where a halving search ends to the place of a value.
use Rattle.std.proofs.Common.{◌≡◌, ℕ, zero, suc, ◌+◌, ◌≤◌, ◌<◌, Bool, true, false, cond, List, [], ◌∷◌, length, get_or, refl, sym, ap, subst, ◌∙◌, arith, inl, inr, ◌≢◌}
use Rattle.std.proofs.lemmas.Bool.{cases_lt}
use Rattle.std.specs.List.{count_by, list_any}
use Rattle.std.specs.List.Sorted.{IsNonDecreasingBy}
use Rattle.std.proofs.lemmas.List.Recursion.{is_count_by}
use Rattle.std.proofs.lemmas.List.Folds.{list_any_at}
use Rattle.std.specs.declared.cmp.Ordering.{Ordering}
use Rattle.std.specs.declared.cmp.Ordering.TheVariants.{Less, Equal, Greater}
use Rattle.std.specs.Ordering.{ordering_index, is_lt, is_le, is_eq, is_some_and}
use Rattle.std.specs.List.{slice_get}
use Rattle.std.proofs.lemmas.Option.{slice_get-get_or}
use Rattle.vx_search.specs.Answers.{standing}
use Rattle.vx_search.specs.Places.{place, count_before, index_of}
use Rattle.vx_search.specs.Halving.{asked, asked_at, Ascends, IsWhere, IsFirstFrom}
use Rattle.vx_search.specs.declared.result.SearchResult.{SearchResult}
use Rattle.vx_search.specs.declared.result.SearchResult.TheVariants.{Found, NotFound}
use Rattle.vx_search.specs.declared.result.SearchSortedSide.{SearchSortedSide}
use Rattle.vx_search.specs.declared.result.SearchSortedSide.TheVariants.{Left, Right}
use Rattle.vx_search.specs.declared.search.Question.{Question}
use Rattle.vx_search.specs.declared.search.Question.TheVariants.{Whole, Below, NotAbove}

-- a count by recursion
abbrev passing : (Ordering → Bool) → List Ordering → ℕ
passing p [] = 0
passing p (x ∷ xs) = cond (p x) (1 + passing p xs) (passing p xs)

passing_at : (p : Ordering → Bool) (os : List Ordering) (i : ℕ) → i ≤ length os → ((k : ℕ) → k < i → p (get_or os k Less) ≡ true)
    → ((k : ℕ) → i ≤ k → k < length os → p (get_or os k Less) ≡ false) → passing p os ≡ i
passing_at p [] i h front back = omega arith
passing_at p (x ∷ xs) zero h front back =
    let e : p x ≡ false = back 0 (omega arith) (omega arith) in
    rw e (passing_at p xs zero (omega arith) (λ k a. absurd (omega arith)) (λ k a b. back (suc k) (omega arith) (omega arith)))
passing_at p (x ∷ xs) (suc i) h front back =
    let e : p x ≡ true = front 0 (omega arith) in
    rw e (omega (arith, passing_at p xs i (omega arith) (λ k a. front (suc k) (omega arith)) (λ k a b. back (suc k) (omega arith) (omega arith))))

-- a test that passes up to a place and fails from there on
pub counted : (p : Ordering → Bool) (os : List Ordering) (i : ℕ) → i ≤ length os → ((k : ℕ) → k < i → p (get_or os k Less) ≡ true)
    → ((k : ℕ) → i ≤ k → k < length os → p (get_or os k Less) ≡ false) → count_by p os ≡ i
counted p os i h front back = sym (is_count_by (passing p) p refl (λ x xs. refl) os) ∙ passing_at p os i h front back

none_passes : (p : Ordering → Bool) (os : List Ordering) → ((k : ℕ) → k < length os → p (get_or os k Less) ≡ false) → list_any p os ≡ false
none_passes p [] h = refl
none_passes p (x ∷ xs) h =
    let e : p x ≡ false = h 0 (omega arith) in
    rw e (none_passes p xs (λ k a. h (suc k) (omega arith)))

in_order : (q : Question) (a b : Ordering) → ordering_index a ≤ ordering_index b → ordering_index (asked q a) ≤ ordering_index (asked q b)
in_order Whole a b h = h
in_order Below Less b h = omega arith
in_order Below Equal Less h = absurd (omega arith)
in_order Below Equal Equal h = omega arith
in_order Below Equal Greater h = omega arith
in_order Below Greater Less h = absurd (omega arith)
in_order Below Greater Equal h = omega arith
in_order Below Greater Greater h = omega arith
in_order NotAbove Less b h = omega arith
in_order NotAbove Equal b h = omega arith
in_order NotAbove Greater Less h = absurd (omega arith)
in_order NotAbove Greater Equal h = absurd (omega arith)
in_order NotAbove Greater Greater h = omega arith

-- the answers to each question ascend where the elements do
pub ascends_asked : (q : Question) (os : List Ordering) (n : ℕ) → Ascends (asked_at Whole os) n → Ascends (asked_at q os) n
ascends_asked q os n up i j h k = in_order q (get_or os i Less) (get_or os j Less) (up i j h k)

pub ascends_upto : (f : ℕ → Ordering) (n m : ℕ) → m ≤ n → Ascends f n → Ascends f m
ascends_upto f n m h up i j a b = up i j a (omega arith)

standing_at : {E V : Type 0} (R : E → V → Ordering) (xs : List E) (v : V) (k : ℕ) (d : E) → k < length xs → get_or (standing R xs v) k Less ≡ R (get_or xs k d) v
standing_at R [] v k d h = absurd (omega arith)
standing_at R (x ∷ xs) v zero d h = refl
standing_at R (x ∷ xs) v (suc k) d h = standing_at R xs v k d (omega arith)

pub length_standing : {E V : Type 0} (R : E → V → Ordering) (xs : List E) (v : V) → length (standing R xs v) ≡ length xs
length_standing R [] v = refl
length_standing R (x ∷ xs) v = ap suc (length_standing R xs v)

-- elements that do not fall against the value
pub ascends_standing : {E V : Type 0} (R : E → V → Ordering) (xs : List E) (v : V) → IsNonDecreasingBy (λ x. ordering_index (R x v)) xs
    → Ascends (asked_at Whole (standing R xs v)) (length xs)
ascends_standing R [] v up i j h k = absurd (omega arith)
ascends_standing R (x ∷ xs) v up i j h k =
    omega (arith, up i j x h k, ap ordering_index (standing_at R (x ∷ xs) v i x (omega arith)), ap ordering_index (standing_at R (x ∷ xs) v j x k))

at_less : (o : Ordering) → o ≡ Less → (is_eq o ≡ false) × (is_lt o ≡ true) × (is_le o ≡ true)
at_less Less e = (refl, refl, refl)
at_less Equal e = absurd (cc)
at_less Greater e = absurd (cc)

at_greater : (o : Ordering) → o ≡ Greater → (is_eq o ≡ false) × (is_lt o ≡ false) × (is_le o ≡ false)
at_greater Less e = absurd (cc)
at_greater Equal e = absurd (cc)
at_greater Greater e = (refl, refl, refl)

count_none : (side : SearchSortedSide) (os : List Ordering) (i : ℕ) → i ≤ length os → ((k : ℕ) → k < i → get_or os k Less ≡ Less)
    → ((k : ℕ) → i ≤ k → k < length os → get_or os k Less ≡ Greater) → count_before side os ≡ i
count_none Left os i h front back = counted is_lt os i h (λ k a. (at_less (get_or os k Less) (front k a)).1) (λ k a b. (at_greater (get_or os k Less) (back k a b)).1)
count_none Right os i h front back = counted is_le os i h (λ k a. (at_less (get_or os k Less) (front k a)).2) (λ k a b. (at_greater (get_or os k Less) (back k a b)).2)

-- nothing is equal
pub place_none : (side : SearchSortedSide) (os : List Ordering) (i : ℕ) → IsWhere (asked_at Whole os) 0 (length os) (NotFound i) → NotFound i ≡ place side os
place_none side os i w =
    let none : list_any is_eq os ≡ false = none_passes is_eq os (λ k a. elim (cases_lt k i) as (λ _. is_eq (get_or os k Less) ≡ false)
    [ inl h ↦ (at_less (get_or os k Less) (w.2 k (omega arith) h)).0 | inr h ↦ (at_greater (get_or os k Less) (w.3 k h a)).0 ]) in
    rw (none, count_none side os i w.1 (λ k a. w.2 k (omega arith) a) (λ k a b. w.3 k a b)) refl

below_yes : (o : Ordering) → asked Below o ≡ Less → is_lt o ≡ true
below_yes Less e = refl
below_yes Equal e = absurd (cc)
below_yes Greater e = absurd (cc)

below_no : (o : Ordering) → asked Below o ≡ Greater → is_lt o ≡ false
below_no Less e = absurd (cc)
below_no Equal e = refl
below_no Greater e = refl

not_above_yes : (o : Ordering) → asked NotAbove o ≡ Less → is_le o ≡ true
not_above_yes Less e = refl
not_above_yes Equal e = refl
not_above_yes Greater e = absurd (cc)

not_above_no : (o : Ordering) → asked NotAbove o ≡ Greater → is_le o ≡ false
not_above_no Less e = absurd (cc)
not_above_no Equal e = absurd (cc)
not_above_no Greater e = refl

not_less : (o : Ordering) → 1 ≤ ordering_index o → is_lt o ≡ false
not_less Less h = absurd (omega arith)
not_less Equal h = refl
not_less Greater h = refl

no_more : (o : Ordering) → ordering_index o ≤ 1 → is_le o ≡ true
no_more Less h = refl
no_more Equal h = refl
no_more Greater h = absurd (omega arith)

below_never : (o : Ordering) → asked Below o ≢ Equal
below_never Less = λ e. cc
below_never Equal = λ e. cc
below_never Greater = λ e. cc

not_above_never : (o : Ordering) → asked NotAbove o ≢ Equal
not_above_never Less = λ e. cc
not_above_never Equal = λ e. cc
not_above_never Greater = λ e. cc

is_equal : (o : Ordering) → o ≡ Equal → is_eq o ≡ true
is_equal Less e = absurd (cc)
is_equal Equal e = refl
is_equal Greater e = absurd (cc)

found_at : (side : SearchSortedSide) (os : List Ordering) (found j : ℕ) → IsWhere (asked_at Whole os) 0 (length os) (Found found) → count_before side os ≡ j → Found j ≡ place side os
found_at side os found j w e = rw (list_any_at is_eq os found Less w.1 (is_equal (get_or os found Less) w.2), e) refl

-- equal elements, and the first of them
pub place_left : (os : List Ordering) (found : ℕ) (r : SearchResult) → Ascends (asked_at Whole os) (length os) → IsWhere (asked_at Whole os) 0 (length os) (Found found)
    → IsWhere (asked_at Below os) 0 found r → Found (index_of r) ≡ place Left os
place_left os found (Found j) up w v = absurd (below_never (get_or os j Less) v.2)
place_left os found (NotFound j) up w v =
    let one : ordering_index (get_or os found Less) ≡ 1 = ap ordering_index w.2 in
    found_at Left os found j w (counted is_lt os j (omega (arith, w.1, v.1)) (λ k a. below_yes (get_or os k Less) (v.2 k (omega arith) a))
    (λ k a b. elim (cases_lt k found) as (λ _. is_lt (get_or os k Less) ≡ false)
    [ inl h ↦ below_no (get_or os k Less) (v.3 k a h) | inr h ↦ not_less (get_or os k Less) (omega (arith, up found k h b)) ]))

-- equal elements, and the end of them
pub place_right : (os : List Ordering) (found : ℕ) (r : SearchResult) → Ascends (asked_at Whole os) (length os) → IsWhere (asked_at Whole os) 0 (length os) (Found found)
    → IsWhere (asked_at NotAbove os) found (length os) r → Found (index_of r) ≡ place Right os
place_right os found (Found j) up w v = absurd (not_above_never (get_or os j Less) v.2)
place_right os found (NotFound j) up w v =
    let one : ordering_index (get_or os found Less) ≡ 1 = ap ordering_index w.2 in
    found_at Right os found j w (counted is_le os j v.1
    (λ k a. elim (cases_lt k found) as (λ _. is_le (get_or os k Less) ≡ true)
    [ inl h ↦ no_more (get_or os k Less) (omega (arith, up k found (omega arith) w.1)) | inr h ↦ not_above_yes (get_or os k Less) (v.2 k h a) ])
    (λ k a b. not_above_no (get_or os k Less) (v.3 k a b)))

-- where a search by `Below` ends is the first place that is not less
pub first_from : (os : List Ordering) (from to : ℕ) (r : SearchResult) → IsWhere (asked_at Below os) from to r → IsFirstFrom os from to (index_of r)
first_from os from to (Found j) v = absurd (below_never (get_or os j Less) v.2)
first_from os from to (NotFound j) v = (v.0, v.1, λ k a b. below_yes (get_or os k Less) (v.2 k a b), λ h. below_no (get_or os j Less) (v.3 j (omega arith) h))

lt_zero : (o : Ordering) → is_lt o ≡ true → ordering_index o ≡ 0
lt_zero Less e = refl
lt_zero Equal e = absurd (cc)
lt_zero Greater e = absurd (cc)

zero_lt : (o : Ordering) → ordering_index o ≡ 0 → is_lt o ≡ true
zero_lt Less e = refl
zero_lt Equal e = absurd (omega arith)
zero_lt Greater e = absurd (omega arith)

pub less_upto : (os : List Ordering) (n : ℕ) → Ascends (asked_at Whole os) n → (k m : ℕ) → k ≤ m → m < n → is_lt (get_or os m Less) ≡ true → is_lt (get_or os k Less) ≡ true
less_upto os n up k m h b e = zero_lt (get_or os k Less) (omega (arith, up k m h b, lt_zero (get_or os m Less) e))

-- what a searcher tells in a later state, of the elements as they were
pub told_lt : {E V : Type 0} (R : E → V → Ordering) (xs ys : List E) (v : V) (k : ℕ) (b : Bool) → ys ≡ xs → k < length xs
    → b ≡ is_some_and is_lt (slice_get (standing R ys v) k) → is_lt (get_or (standing R xs v) k Less) ≡ b
told_lt R xs ys v k b same h told =
    let inside : k < length (standing R xs v) = omega (arith, h, length_standing R xs v) in
    let here : b ≡ is_some_and is_lt (slice_get (standing R xs v) k) = subst (λ zs. b ≡ is_some_and is_lt (slice_get (standing R zs v) k)) same told in
    sym (here ∙ ap (is_some_and is_lt) (slice_get-get_or (standing R xs v) k Less inside))

pub told_asked : {E V : Type 0} (q : Question) (R : E → V → Ordering) (xs ys : List E) (v : V) (k : ℕ) (o : Ordering) → ys ≡ xs
    → o ≡ asked_at q (standing R ys v) k → o ≡ asked_at q (standing R xs v) k
told_asked q R xs ys v k o same told = subst (λ zs. o ≡ asked_at q (standing R zs v) k) same told
