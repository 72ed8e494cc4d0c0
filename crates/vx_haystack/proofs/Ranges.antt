-- What rows give that are looked at a range at a time, or one at a time.
use Rattle.std.proofs.Common.{ℕ, ◌≡◌, ◌<◌, ◌≤◌, ◌+◌, ◌-◌, ◌∙◌, ap, sym, arith, List, [], ◌∷◌, ◌++◌, length, get_or, take, drop, map, append_assoc}
use Rattle.std.specs.List.{slice_range}
use Rattle.std.proofs.lemmas.List.{take-append-drop, take-take, take_more, drop-take, map-append}

take_range : {A : Type 0} (xs : List A) (s e : ℕ) → s ≤ e → take e xs ≡ take s xs ++ slice_range xs s e
take_range xs s e o =
    let m : ℕ = e - s in
    let f : e ≡ s + m = omega arith in
    let front : take s (take e xs) ≡ take s xs = take-take s e xs o in
    let back : drop s (take e xs) ≡ slice_range xs s e = ap (λ n. drop s (take n xs)) f ∙ drop-take s m xs in
    sym (take-append-drop s (take e xs)) ∙ (λ i. front i ++ back i)

-- f of the elements so far, and of a range more
pub map_range_more : {A B : Type 0} (f : A → B) (xs block : List A) (s e : ℕ) (before now : List B) → s ≤ e → block ≡ slice_range xs s e → before ≡ map f (take s xs) → now ≡ before ++ map f block → now ≡ map f (take e xs)
map_range_more f xs block s e before now o range so_far next =
    next ∙ (λ i. so_far i ++ map f (range i)) ∙ sym (map-append f (take s xs) (slice_range xs s e)) ∙ ap (map f) (sym (take_range xs s e o))

-- behind other elements f of the elements so far, and of one more
pub map_one_more : {A B : Type 0} (f : A → B) (xs : List A) (i : ℕ) (y : B) (d : A) (out before now : List B) → i < length xs → y ≡ f (get_or xs i d) → before ≡ out ++ map f (take i xs) → now ≡ before ++ y ∷ [] → now ≡ out ++ map f (take (i + 1) xs)
map_one_more f xs i y d out before now h at so_far next =
    next ∙ (λ j. so_far j ++ at j ∷ []) ∙ append_assoc out (map f (take i xs)) (f (get_or xs i d) ∷ [])
    ∙ ap (λ rs. out ++ rs) (sym (ap (map f) (take_more xs i d h) ∙ map-append f (take i xs) (get_or xs i d ∷ [])))
