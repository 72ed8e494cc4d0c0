-- The rows of what is packed.
use Rattle.std.proofs.Common.{ℕ, zero, suc, ◌≡◌, ◌<◌, ◌≤◌, ◌+◌, ◌-◌, ◌∙◌, ap, sym, refl, arith, List, [], ◌∷◌, ◌++◌, length, get_or, take, drop, map, Option, None, reverse, append_assoc}
use Rattle.std.specs.Option.{option_map}
use Rattle.std.specs.List.{slice_range, take-map, drop-map}
use Rattle.std.proofs.lemmas.List.{take_more, get_or-drop, length-drop, length-map, map-append, reverse-append}

pub get_rows : {A B : Type 0} (f : A → B) (xs : List (Option A)) (i : ℕ) → get_or (map (option_map f) xs) i None ≡ option_map f (get_or xs i None)
get_rows f [] i = refl
get_rows f (x ∷ xs) zero = refl
get_rows f (x ∷ xs) (suc i) = get_rows f xs i

pub push_rows : {A B : Type 0} (f : A → B) (xs : List (Option A)) (x : Option A) → map (option_map f) (xs ++ x ∷ []) ≡ map (option_map f) xs ++ option_map f x ∷ []
push_rows f [] x = refl
push_rows f (y ∷ xs) x = ap (λ r. option_map f y ∷ r) (push_rows f xs x)

-- a range of one more
pub range_more : {X : Type 0} (xs : List X) (a i : ℕ) (d : X) → a ≤ i → i < length xs → slice_range xs a (i + 1) ≡ slice_range xs a i ++ get_or xs i d ∷ []
range_more xs a i d o h =
    let e : i + 1 - a ≡ i - a + 1 = omega arith in
    let f : a + (i - a) ≡ i = omega arith in
    ap (λ n. take n (drop a xs)) e
    ∙ take_more (drop a xs) (i - a) d (omega (arith, length-drop a xs))
    ∙ ap (λ x. slice_range xs a i ++ x ∷ []) (get_or-drop a xs (i - a) d ∙ ap (λ n. get_or xs n d) f)

-- a range of one more, behind other elements
pub range_grows : {X : Type 0} (u v w xs : List X) (a i : ℕ) (x d : X) → u ≡ v ++ slice_range xs a i → a ≤ i → i < length xs → w ≡ u ++ x ∷ [] → x ≡ get_or xs i d → w ≡ v ++ slice_range xs a (i + 1)
range_grows u v w xs a i x d so_far order inside next at =
    next ∙ (λ i. so_far i ++ at i ∷ []) ∙ append_assoc v (slice_range xs a i) (get_or xs i d ∷ []) ∙ ap (λ t. v ++ t) (sym (range_more xs a i d order inside))

pub length_rows : {A B : Type 0} (f : A → B) (xs : List (Option A)) → length (map (option_map f) xs) ≡ length xs
length_rows f xs = length-map xs (option_map f)

map_reverse : {A B : Type 0} (f : A → B) (xs : List A) → map f (reverse xs) ≡ reverse (map f xs)
map_reverse f [] = refl
map_reverse f (x ∷ xs) =
    ap (map f) (reverse-append (x ∷ []) xs)
    ∙ map-append f (reverse xs) (x ∷ [])
    ∙ ap (λ r. r ++ f x ∷ []) (map_reverse f xs)
    ∙ sym (reverse-append (f x ∷ []) (map f xs))

pub take_rows : {A B : Type 0} (f : A → B) (n : ℕ) (xs : List (Option A)) → map (option_map f) (take n xs) ≡ take n (map (option_map f) xs)
take_rows f n xs = sym (take-map (option_map f) n xs)

pub reverse_rows : {A B : Type 0} (f : A → B) (xs : List (Option A)) → map (option_map f) (reverse xs) ≡ reverse (map (option_map f) xs)
reverse_rows f xs = map_reverse (option_map f) xs

pub extend_rows : {A B : Type 0} (f : A → B) (xs ys : List (Option A)) (a b : ℕ) → map (option_map f) (xs ++ slice_range ys a b) ≡ map (option_map f) xs ++ slice_range (map (option_map f) ys) a b
extend_rows f xs ys a b =
    map-append (option_map f) xs (slice_range ys a b)
    ∙ ap (λ r. map (option_map f) xs ++ r) (sym (take-map (option_map f) (b - a) (drop a ys)) ∙ ap (take (b - a)) (sym (drop-map (option_map f) a ys)))
