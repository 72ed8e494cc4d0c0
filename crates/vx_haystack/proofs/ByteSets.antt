-- Sets of bytes, of which one is put in.
use Rattle.std.proofs.Common.{ℕ, ◌≡◌, ◌∙◌, ◌<◌, ◌+◌, ap, sym, refl, arith, Bool, true, false, not, ◌&&◌, ◌||◌, List, [], ◌∷◌, ◌++◌, length, take, get_or, map, nat_eq, Option, Some, None}
use Rattle.std.specs.Bool.{MatchBool}
use Rattle.std.specs.List.{list_any}
use Rattle.std.specs.List.Sorted.{IsPermutation}
use Rattle.std.specs.Option.{option_to_list}
use Rattle.std.specs.declared.cmp.Ordering.{Ordering}
use Rattle.std.specs.declared.cmp.Ordering.TheVariants.{Less, Equal, Greater}
use Rattle.std.specs.Ordering.{is_eq, nat_cmp, ordering_then}
use Rattle.std.specs.Cmp.Lexicographic.{slice_cmp, pointwise}
use Rattle.std.proofs.lemmas.Bool.{and_parts, false≢true}
use Rattle.std.proofs.lemmas.Bool.Decides.{nat_tests, Decides-eqb}
use Rattle.std.proofs.lemmas.List.Sorted.{list_any-IsPermutation}
use Rattle.std.proofs.lemmas.List.Folds.{list_any-append}
use Rattle.vx_haystack.specs.Keys.{has_bytes, of_key, keys_of}
use Rattle.vx_haystack.proofs.Keys.{given_more}
use Rattle.vx_rows.specs.declared.value.Value.{Value}

pub any_map : {X Y : Type 0} (f : X → Y) (p : Y → Bool) (xs : List X) → list_any p (map f xs) ≡ list_any (λ x. p (f x)) xs
any_map f p [] = refl
any_map f p (x ∷ xs) = ap (λ b. p (f x) || b) (any_map f p xs)

both_eq : (o r : Ordering) (b : Bool) → b ≡ is_eq o → (b && is_eq r) ≡ is_eq (ordering_then o r)
both_eq Less r true e = absurd (false≢true (sym e))
both_eq Less r false e = refl
both_eq Equal r true e = refl
both_eq Equal r false e = absurd (false≢true e)
both_eq Greater r true e = absurd (false≢true (sym e))
both_eq Greater r false e = refl

number_eq : (x k : ℕ) → nat_eq x k ≡ is_eq (nat_cmp k x)
number_eq x k = grind (arith, nat_tests)

-- equality of bytes by their order
pub same_bytes : (q k : List ℕ) → pointwise nat_eq q k ≡ is_eq (slice_cmp nat_cmp k q)
same_bytes [] [] = refl
same_bytes [] (k ∷ ks) = refl
same_bytes (x ∷ q) [] = refl
same_bytes (x ∷ q) (k ∷ ks) = ap (λ b. nat_eq x k && b) (same_bytes q ks) ∙ both_eq (nat_cmp k x) (slice_cmp nat_cmp ks q) (nat_eq x k) (number_eq x k)

same_list : (a b : List ℕ) → pointwise nat_eq a b ≡ true → a ≡ b
same_list [] [] e = refl
same_list [] (y ∷ b) e = absurd (false≢true e)
same_list (x ∷ a) [] e = absurd (false≢true e)
same_list (x ∷ a) (y ∷ b) e =
    let parts = and_parts (nat_eq x y) (pointwise nat_eq a b) e in
    λ i. (Decides-eqb x y).0 parts.0 i ∷ same_list a b parts.1 i

or_true : (a : Bool) → (a || true) ≡ true
or_true true = refl
or_true false = refl

-- some element passes p where each one that passes q does and one does
any_passes : {X : Type 0} (p q : X → Bool) → ((x : X) → q x ≡ true → p x ≡ true) → (xs : List X) → list_any q xs ≡ true → list_any p xs ≡ true
any_passes p q h [] e = absurd (false≢true e)
any_passes p q h (x ∷ xs) e = by_test (q x) refl e (any_passes p q h xs)
  where
    by_test : (t : Bool) → q x ≡ t → (t || list_any q xs) ≡ true → (list_any q xs ≡ true → list_any p xs ≡ true) → (p x || list_any p xs) ≡ true
    by_test true f e rest = ap (λ t. t || list_any p xs) (h x f)
    by_test false f e rest = ap (λ t. p x || t) (rest e) ∙ or_true (p x)

any_same : {X : Type 0} (p q : X → Bool) (b : Bool) → ((x : X) → q x ≡ true → p x ≡ b) → (xs : List X) → list_any q xs ≡ true → list_any p xs ≡ (b || list_any p xs)
any_same p q true h xs e = any_passes p q h xs e
any_same p q false h xs e = refl

not_is : (b : Bool) → false ≡ not b → b ≡ true
not_is true e = refl
not_is false e = absurd (false≢true e)

-- the keys after one was put in, by whether it was new
pub put_any : {X : Type 0} (items : X → List ℕ) (k : X) (old new : List X) (added : Bool) → added ≡ not (list_any (λ y. pointwise nat_eq (items k) (items y)) old) → MatchBool added (IsPermutation (k ∷ old) new) (new ≡ old) →
    (other : List ℕ) → has_bytes (map items new) other ≡ (is_eq (slice_cmp nat_cmp (items k) other) || has_bytes (map items old) other)
put_any {X} items k old new true fresh kept other =
    let p : X → Bool = λ y. is_eq (slice_cmp nat_cmp (items y) other) in
    any_map items (λ b. is_eq (slice_cmp nat_cmp b other)) new ∙ sym (list_any-IsPermutation p (k ∷ old) new kept) ∙ ap (λ t. p k || t) (sym (any_map items (λ b. is_eq (slice_cmp nat_cmp b other)) old))
put_any {X} items k old new false fresh kept other =
    let p : X → Bool = λ y. is_eq (slice_cmp nat_cmp (items y) other) in
    let q : X → Bool = λ y. pointwise nat_eq (items k) (items y) in
    let alike : (y : X) → q y ≡ true → p y ≡ p k = λ y e. ap (λ b. is_eq (slice_cmp nat_cmp b other)) (sym (same_list (items k) (items y) e)) in
    let mapped = any_map items (λ b. is_eq (slice_cmp nat_cmp b other)) old in
    ap (λ ks. has_bytes (map items ks) other) kept ∙ mapped ∙ any_same p q (p k) alike old (not_is (list_any q old) fresh) ∙ ap (λ t. p k || t) (sym mapped)

-- the bytes of the rows so far, and of one more
pub bytes_more : (key : Option Value → Option (List ℕ)) (rows : List (Option Value)) (i : ℕ) (before now : List (List ℕ)) (more : Option (List ℕ)) → i < length rows → more ≡ key (get_or rows i None) →
    ((other : List ℕ) → has_bytes before other ≡ has_bytes (keys_of key (take i rows)) other) →
    ((other : List ℕ) → has_bytes now other ≡ (of_key (λ k. is_eq (slice_cmp nat_cmp k other)) more || has_bytes before other)) →
    (other : List ℕ) → has_bytes now other ≡ has_bytes (keys_of key (take (i + 1) rows)) other
bytes_more key rows i before now more h at so_far next other =
    let f : Option Value → List (List ℕ) = λ r. option_to_list (key r) in
    let p : List ℕ → Bool = λ k. is_eq (slice_cmp nat_cmp k other) in
    let all : keys_of key (take i rows) ++ option_to_list more ≡ keys_of key (take (i + 1) rows) = given_more f rows i None (keys_of key (take i rows)) (option_to_list more) _ h refl (ap option_to_list at) refl in
    next other ∙ ap (λ t. of_key p more || t) (so_far other) ∙ one more (has_bytes (keys_of key (take i rows)) other) ∙ sym (list_any-append p (keys_of key (take i rows)) (option_to_list more)) ∙ ap (list_any p) all
  where
    swap : (a b : Bool) → (a || b) ≡ (b || (a || false))
    swap true true = refl
    swap true false = refl
    swap false true = refl
    swap false false = refl

    end : (b : Bool) → b ≡ (b || false)
    end true = refl
    end false = refl

    one : (m : Option (List ℕ)) (b : Bool) → (of_key (λ k. is_eq (slice_cmp nat_cmp k other)) m || b) ≡ (b || list_any (λ k. is_eq (slice_cmp nat_cmp k other)) (option_to_list m))
    one None b = end b
    one (Some k) b = swap (is_eq (slice_cmp nat_cmp k other)) b
