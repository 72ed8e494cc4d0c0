-- Numbers that don't fall can be searched for any value.
use Rattle.std.proofs.Common.{ℕ, ℤ, pos, ◌≡◌, ◌∙◌, ◌<◌, ◌≤◌, sym, ap, arith, length, map, get_or, slice_index, true, List, Option, None}
use Rattle.std.proofs.lemmas.List.{get_or-map, length-map}
use Rattle.std.proofs.lemmas.Bool.Decides.{nat_tests}
use Rattle.std.proofs.lemmas.Int.{ints}
use Rattle.std.specs.List.Sorted.{IsNonDecreasing, IsNonDecreasingBy}
use Rattle.std.specs.Ordering.{nat_cmp, int_cmp, ordering_index}
use Rattle.vx_rows.specs.declared.dtype.DType.{DType}
use Rattle.vx_rows.specs.declared.value.Value.{Value}
use Rattle.vx_rows.specs.Fits.{rows_fit}
use Rattle.vx_base.specs.Numbers.{row_int, magnitude, numbers_of, is_unsigned}
use Rattle.vx_base.proofs.Numbers.{number_at, numbers_at}
use Rattle.vx_search.specs.Numbers.{or_zero}

nat_rank : (a b v : ℕ) → a ≤ b → ordering_index (nat_cmp a v) ≤ ordering_index (nat_cmp b v)
nat_rank a b v h = grind (arith, nat_tests)

int_rank : (a b v : ℕ) → a ≤ b → ordering_index (int_cmp (pos a) (pos v)) ≤ ordering_index (int_cmp (pos b) (pos v))
int_rank a b v h = grind (arith, ints)

-- a list of natural numbers, by their own order
pub numbers_searchable : (xs : List ℕ) (v : ℕ) → IsNonDecreasing xs → IsNonDecreasingBy (λ x. ordering_index (nat_cmp x v)) xs
numbers_searchable xs v h = λ i j d a b. nat_rank (get_or xs i d) (get_or xs j d) v (h i j d a b)

-- an entry of an unsigned column, as a searcher by places sees it
entry_at : (t : DType) (rs : List (Option Value)) (i : ℕ) (d : Option ℤ) → rows_fit t rs ≡ true → is_unsigned t ≡ true → i < length rs
    → or_zero (get_or (map row_int rs) i d) ≡ pos (slice_index (numbers_of rs) i)
entry_at t rs i d fits unsigned inside =
    let n = number_at t rs i fits unsigned inside in
    ap or_zero (get_or-map row_int rs i None d inside ∙ n.is) ∙ ap pos (sym (numbers_at rs i inside ∙ ap magnitude n.is))

-- a column of unsigned integers, for places
pub places_searchable : (t : DType) (rs : List (Option Value)) (v : ℕ) → rows_fit t rs ≡ true → is_unsigned t ≡ true → IsNonDecreasing (numbers_of rs)
    → IsNonDecreasingBy (λ x. ordering_index (int_cmp (or_zero x) (pos v))) (map row_int rs)
places_searchable t rs v fits unsigned h = λ i j d a b.
    let long = length-map rs row_int in
    let size = length-map rs (λ r. magnitude (row_int r)) in
    rw (entry_at t rs i d fits unsigned (omega arith), entry_at t rs j d fits unsigned (omega arith))
    (int_rank (slice_index (numbers_of rs) i) (slice_index (numbers_of rs) j) v (h i j 0 a (omega arith)))
