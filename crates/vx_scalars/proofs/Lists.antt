-- Rows that are chosen, filled and compared: how many there are, and those of lists that are joined or cut.
use Rattle.std.proofs.Common.{ℕ, zero, suc, ◌≡◌, ◌<◌, ◌+◌, ◌-◌, ◌∙◌, ap, sym, refl, arith, Bool, cond, List, [], ◌∷◌, ◌++◌, length, get_or, take, drop, map, replicate, Option, None, subst}
use Rattle.std.specs.List.{slice_range}
use Rattle.std.proofs.lemmas.List.{take_more, map-append, take-map, drop-map, length-map, get_or-map}
use Rattle.vx_rows.specs.declared.value.Value.{Value}
use Rattle.vx_scalars.specs.declared.operator.CompareOperator.{CompareOperator}
use Rattle.vx_scalars.specs.Elementwise.{chosen, filled_row, filled, compared_row, compared}

abbrev Row : Type 0
Row = Option Value

-- a function of each element, over lists that are cut, joined, one longer, or one element several times
pub map_range : {A B : Type 0} (f : A → B) (xs : List A) (a b : ℕ) → slice_range (map f xs) a b ≡ map f (slice_range xs a b)
map_range f xs a b = ap (take (b - a)) (drop-map f a xs) ∙ take-map f (b - a) (drop a xs)

pub map_more : {A B : Type 0} (f : A → B) (xs : List A) (i : ℕ) (d : A) → i < length xs → map f (take (i + 1) xs) ≡ map f (take i xs) ++ f (get_or xs i d) ∷ []
map_more f xs i d h = ap (map f) (take_more xs i d h) ∙ map-append f (take i xs) (get_or xs i d ∷ [])

pub map_replicate : {A B : Type 0} (f : A → B) (n : ℕ) (x : A) → map f (replicate n x) ≡ replicate n (f x)
map_replicate f zero x = refl
map_replicate f (suc n) x = ap (λ ys. f x ∷ ys) (map_replicate f n x)

-- `joined` joins lists in order
module _ {A B : Type 0} (f : A → B) (joined : List (List A) → List A) (joined' : List (List B) → List B) (none : joined [] ≡ []) (none' : joined' [] ≡ []) (more : (xs : List A) (xss : List (List A)) → joined (xs ∷ xss) ≡ xs ++ joined xss) (more' : (ys : List B) (yss : List (List B)) → joined' (ys ∷ yss) ≡ ys ++ joined' yss) where
  pub map_joined : (xss : List (List A)) → map f (joined xss) ≡ joined' (map (map f) xss)
  map_joined [] = ap (map f) none ∙ sym none'
  map_joined (xs ∷ xss) = ap (map f) (more xs xss) ∙ map-append f xs (joined xss) ∙ ap (λ ys. map f xs ++ ys) (map_joined xss) ∙ sym (more' (map f xs) (map (map f) xss))

pub length_filled : (value : Row) (rows : List Row) → length (filled value rows) ≡ length rows
length_filled value rows = length-map rows (filled_row value)

pub filled_append : (value : Row) (xs ys : List Row) → filled value (xs ++ ys) ≡ filled value xs ++ filled value ys
filled_append value xs ys = map-append (filled_row value) xs ys

pub filled_range : (value : Row) (rows : List Row) (a b : ℕ) → slice_range (filled value rows) a b ≡ filled value (slice_range rows a b)
filled_range value rows a b = map_range (filled_row value) rows a b

pub filled_at : (value : Row) (rows : List Row) (i : ℕ) → i < length rows → get_or (filled value rows) i None ≡ filled_row value (get_or rows i None)
filled_at value rows i h = get_or-map (filled_row value) rows i None None h

pub filled_more : (value : Row) (rows : List Row) (i : ℕ) → i < length rows → filled value (take (i + 1) rows) ≡ filled value (take i rows) ++ filled_row value (get_or rows i None) ∷ []
filled_more value rows i h = map_more (filled_row value) rows i None h

pub filled_replicate : (value row : Row) (n : ℕ) → filled value (replicate n row) ≡ replicate n (filled_row value row)
filled_replicate value row n = map_replicate (filled_row value) n row

module _ (op : CompareOperator) (value : Row) where
  pub length_compared : (rows : List Row) → length (compared op value rows) ≡ length rows
  length_compared rows = length-map rows (compared_row op value)

  pub compared_append : (xs ys : List Row) → compared op value (xs ++ ys) ≡ compared op value xs ++ compared op value ys
  compared_append xs ys = map-append (compared_row op value) xs ys

  pub compared_range : (rows : List Row) (a b : ℕ) → slice_range (compared op value rows) a b ≡ compared op value (slice_range rows a b)
  compared_range rows a b = map_range (compared_row op value) rows a b

  pub compared_at : (rows : List Row) (i : ℕ) → i < length rows → get_or (compared op value rows) i None ≡ compared_row op value (get_or rows i None)
  compared_at rows i h = get_or-map (compared_row op value) rows i None None h

  pub compared_more : (rows : List Row) (i : ℕ) → i < length rows → compared op value (take (i + 1) rows) ≡ compared op value (take i rows) ++ compared_row op value (get_or rows i None) ∷ []
  compared_more rows i h = map_more (compared_row op value) rows i None h

  pub compared_replicate : (row : Row) (n : ℕ) → compared op value (replicate n row) ≡ replicate n (compared_row op value row)
  compared_replicate row n = map_replicate (compared_row op value) n row

-- compared with a null
pub compared_null : (op : CompareOperator) (rows : List Row) → compared op None rows ≡ replicate (length rows) None
compared_null op [] = refl
compared_null op (r ∷ rows) = ap (λ rs. None ∷ rs) (compared_null op rows)

module _ {A : Type 0} where
  pub length_chosen : (xs ys : List A) (bits : List Bool) → length ys ≡ length xs → length bits ≡ length xs → length (chosen xs ys bits) ≡ length xs
  length_chosen [] ys bits e f = refl
  length_chosen (x ∷ xs) [] bits e f = absurd (omega arith)
  length_chosen (x ∷ xs) (y ∷ ys) [] e f = absurd (omega arith)
  length_chosen (x ∷ xs) (y ∷ ys) (bit ∷ bits) e f = ap suc (length_chosen xs ys bits (omega arith) (omega arith))

  pub chosen_append : (xs ys : List A) (bits : List Bool) (xs' ys' : List A) (bits' : List Bool) → length ys ≡ length xs → length bits ≡ length xs →
      chosen (xs ++ xs') (ys ++ ys') (bits ++ bits') ≡ chosen xs ys bits ++ chosen xs' ys' bits'
  chosen_append [] [] [] xs' ys' bits' e f = refl
  chosen_append [] (y ∷ ys) bits xs' ys' bits' e f = absurd (omega arith)
  chosen_append [] [] (bit ∷ bits) xs' ys' bits' e f = absurd (omega arith)
  chosen_append (x ∷ xs) [] bits xs' ys' bits' e f = absurd (omega arith)
  chosen_append (x ∷ xs) (y ∷ ys) [] xs' ys' bits' e f = absurd (omega arith)
  chosen_append (x ∷ xs) (y ∷ ys) (bit ∷ bits) xs' ys' bits' e f = ap (λ rs. cond bit x y ∷ rs) (chosen_append xs ys bits xs' ys' bits' (omega arith) (omega arith))

  pub chosen_none : (xs : List A) (bits : List Bool) → chosen xs [] bits ≡ []
  chosen_none [] bits = refl
  chosen_none (x ∷ xs) bits = refl

  pub chosen_unasked : (xs ys : List A) → chosen xs ys [] ≡ []
  chosen_unasked [] ys = refl
  chosen_unasked (x ∷ xs) [] = refl
  chosen_unasked (x ∷ xs) (y ∷ ys) = refl

  pub chosen_take : (n : ℕ) (xs ys : List A) (bits : List Bool) → take n (chosen xs ys bits) ≡ chosen (take n xs) (take n ys) (take n bits)
  chosen_take zero xs ys bits = refl
  chosen_take (suc n) [] ys bits = refl
  chosen_take (suc n) (x ∷ xs) [] bits = refl
  chosen_take (suc n) (x ∷ xs) (y ∷ ys) [] = refl
  chosen_take (suc n) (x ∷ xs) (y ∷ ys) (bit ∷ bits) = ap (λ rs. cond bit x y ∷ rs) (chosen_take n xs ys bits)

  pub chosen_drop : (n : ℕ) (xs ys : List A) (bits : List Bool) → drop n (chosen xs ys bits) ≡ chosen (drop n xs) (drop n ys) (drop n bits)
  chosen_drop zero xs ys bits = refl
  chosen_drop (suc n) [] ys bits = refl
  chosen_drop (suc n) (x ∷ xs) [] bits = sym (chosen_none (drop n xs) (drop (suc n) bits))
  chosen_drop (suc n) (x ∷ xs) (y ∷ ys) [] = sym (chosen_unasked (drop n xs) (drop n ys))
  chosen_drop (suc n) (x ∷ xs) (y ∷ ys) (bit ∷ bits) = chosen_drop n xs ys bits

  pub chosen_range : (xs ys : List A) (bits : List Bool) (a b : ℕ) → slice_range (chosen xs ys bits) a b ≡ chosen (slice_range xs a b) (slice_range ys a b) (slice_range bits a b)
  chosen_range xs ys bits a b = ap (take (b - a)) (chosen_drop a xs ys bits) ∙ chosen_take (b - a) (drop a xs) (drop a ys) (drop a bits)

  pub chosen_at : (xs ys : List A) (bits : List Bool) (i : ℕ) (d : A) (c : Bool) → i < length xs → i < length ys → i < length bits →
      get_or (chosen xs ys bits) i d ≡ cond (get_or bits i c) (get_or xs i d) (get_or ys i d)
  chosen_at [] ys bits i d c h k l = absurd (omega arith)
  chosen_at (x ∷ xs) [] bits i d c h k l = absurd (omega arith)
  chosen_at (x ∷ xs) (y ∷ ys) [] i d c h k l = absurd (omega arith)
  chosen_at (x ∷ xs) (y ∷ ys) (bit ∷ bits) zero d c h k l = refl
  chosen_at (x ∷ xs) (y ∷ ys) (bit ∷ bits) (suc i) d c h k l = chosen_at xs ys bits i d c (omega arith) (omega arith) (omega arith)

  chosen_next : (xs ys : List A) (bits : List Bool) (i : ℕ) (d : A) (c : Bool) → i < length xs → i < length ys → i < length bits →
      chosen (take (suc i) xs) (take (suc i) ys) (take (suc i) bits) ≡ chosen (take i xs) (take i ys) (take i bits) ++ cond (get_or bits i c) (get_or xs i d) (get_or ys i d) ∷ []
  chosen_next [] ys bits i d c h k l = absurd (omega arith)
  chosen_next (x ∷ xs) [] bits i d c h k l = absurd (omega arith)
  chosen_next (x ∷ xs) (y ∷ ys) [] i d c h k l = absurd (omega arith)
  chosen_next (x ∷ xs) (y ∷ ys) (bit ∷ bits) zero d c h k l = refl
  chosen_next (x ∷ xs) (y ∷ ys) (bit ∷ bits) (suc i) d c h k l = ap (λ rs. cond bit x y ∷ rs) (chosen_next xs ys bits i d c (omega arith) (omega arith) (omega arith))

  pub chosen_more : (xs ys : List A) (bits : List Bool) (i : ℕ) (d : A) (c : Bool) → i < length xs → i < length ys → i < length bits →
      chosen (take (i + 1) xs) (take (i + 1) ys) (take (i + 1) bits) ≡ chosen (take i xs) (take i ys) (take i bits) ++ cond (get_or bits i c) (get_or xs i d) (get_or ys i d) ∷ []
  chosen_more xs ys bits i d c h k l =
      let e : suc i ≡ i + 1 = omega arith in
      subst (λ n. chosen (take n xs) (take n ys) (take n bits) ≡ chosen (take i xs) (take i ys) (take i bits) ++ cond (get_or bits i c) (get_or xs i d) (get_or ys i d) ∷ []) e
      (chosen_next xs ys bits i d c h k l)
