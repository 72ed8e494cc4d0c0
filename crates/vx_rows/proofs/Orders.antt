-- The equations of the order.
use Rattle.std.proofs.Common.{ℕ, ◌≡◌, ◌<◌, length, drop, ◌≤◌, arith, sym, ◌∙◌, subst, List, [], ◌∷◌, Option, Some, None, option_map, map, refl, rules}
use Rattle.std.specs.declared.cmp.Ordering.TheVariants.{Less}
use Rattle.std.specs.Ordering.{ordering_then}
use Rattle.std.specs.Cmp.Lexicographic.{slice_cmp}
use Rattle.vx_rows.specs.Order.{option_cmp, value_cmp, row_cmp, rows_cmp}
use Rattle.vx_rows.specs.declared.value.Value.{Value, List as Listed, Struct, the_lemmas}

row_layer : (x y : Option Value) → option_cmp (λ f w. f w) (option_map value_cmp x) y ≡ row_cmp x y
row_layer None None = refl
row_layer None (Some y) = refl
row_layer (Some x) None = refl
row_layer (Some x) (Some y) = refl

pub rows_layer : (xs ys : List (Option Value)) → slice_cmp (option_cmp (λ f w. f w)) (map (option_map value_cmp) xs) ys ≡ rows_cmp xs ys
rows_layer [] [] = refl
rows_layer [] (y ∷ ys) = refl
rows_layer (x ∷ xs) [] = refl
rows_layer (x ∷ xs) (y ∷ ys) = λ i. ordering_then (row_layer x y i) (rows_layer xs ys i)

pub cmp_lists : (xs ys : List (Option Value)) → value_cmp (Listed xs) (Listed ys) ≡ rows_cmp xs ys
cmp_lists xs ys = search (rules, the_lemmas, rows_layer)

pub cmp_structs : (xs ys : List (Option Value)) → value_cmp (Struct xs) (Struct ys) ≡ rows_cmp xs ys
cmp_structs xs ys = search (rules, the_lemmas, rows_layer)

-- what is left where the first list ends
pub shorter_first : (xs ys : List (Option Value)) → length xs < length ys → rows_cmp (drop (length xs) xs) (drop (length xs) ys) ≡ Less
shorter_first [] [] h = absurd (omega arith)
shorter_first [] (y ∷ ys) h = refl
shorter_first (x ∷ xs) [] h = absurd (omega arith)
shorter_first (x ∷ xs) (y ∷ ys) h = shorter_first xs ys (omega arith)

-- the first list ended with the walk over it
pub shorter : (i : ℕ) (xs ys : List (Option Value)) → length xs ≤ i → i ≤ length xs → length xs < length ys
    → rows_cmp xs ys ≡ rows_cmp (drop i xs) (drop i ys) → Less ≡ rows_cmp xs ys
shorter i xs ys a b h e =
    let same : length xs ≡ i = omega arith in
    sym (e ∙ subst (λ k. rows_cmp (drop k xs) (drop k ys) ≡ Less) same (shorter_first xs ys h))
