-- What selectors that break no rule keep.
use Rattle.std.proofs.Common.{◌≡◌, ℕ, zero, suc, ◌<◌, Bool, true, false, ◌==◌, nat_le, nat_lt, List, [], ◌∷◌, length, slice_index, refl, sym, arith}
use Rattle.std.specs.Prelude.{Some, None, not}
use Rattle.std.proofs.lemmas.Bool.{false≢true, and_parts}
use Rattle.std.proofs.lemmas.Bool.Decides.{nat_tests}
use Rattle.vx_rows.specs.declared.error.Rule.{Rule}
use Rattle.vx_base.specs.Column.{Flat}
use Rattle.vx_base.specs.Numbers.{numbers_of, is_unsigned}
use Rattle.vx_base.specs.Checks.{all_within, selectors_within}
use Rattle.vx_base.specs.Rules.{first_broken}
use Rattle.vx_base.proofs.CheckLemmas.{within_at, length_numbers}
use Rattle.vx_interleave.specs.Selections.{selection, IsSelection, AreWithin}
use Rattle.vx_interleave.specs.Rules.{selector_fault}

not_false : (b : Bool) → not b ≡ false → b ≡ true
not_false true e = refl
not_false false e = absurd (false≢true (sym e))

first_holds : (b : Bool) (rule : Rule) (rules : List (Rule × Bool)) → first_broken ((rule, b) ∷ rules) ≡ None → (b ≡ false) × (first_broken rules ≡ None)
unfolding first_broken
first_holds true rule rules e = absurd (cc)
first_holds false rule rules e = (refl, e)

row_below : (ns rs ls : List ℕ) (i : ℕ) → selectors_within ns rs ls ≡ true → i < length ns → i < length rs → slice_index rs i < slice_index ls (slice_index ns i)
row_below [] rs ls i e h k = absurd (omega arith)
row_below (n ∷ ns) [] ls i e h k = absurd (omega arith)
row_below (n ∷ ns) (r ∷ rs) ls zero e h k =
    let p = and_parts (nat_lt r (slice_index ls n)) (selectors_within ns rs ls) e in
    let q : nat_lt r (slice_index ls n) ≡ true = p.0 in
    grind (arith, q)
row_below (n ∷ ns) (r ∷ rs) ls (suc i) e h k = row_below ns rs ls i (and_parts (nat_lt r (slice_index ls n)) (selectors_within ns rs ls) e).1 (omega arith) (omega arith)

-- what the four rules say
pub record Holds (arrays rows : Flat) (lens : List ℕ) : Type 0 where
  pub sound : IsSelection (selection arrays rows)
  pub within : AreWithin (selection arrays rows) lens

pub holds : (arrays rows : Flat) (lens : List ℕ) → selector_fault arrays rows lens ≡ None → Holds arrays rows lens
holds arrays rows lens e =
    let a = first_holds _ _ _ e in
    let b = first_holds _ _ _ a.1 in
    let c = first_holds _ _ _ b.1 in
    let d = first_holds _ _ _ c.1 in
    let types = and_parts (is_unsigned arrays.dtype) (is_unsigned rows.dtype) (not_false _ a.0) in
    let alike : (length arrays.rows == length rows.rows) ≡ true = not_false _ b.0 in
    let paired : length arrays.rows ≡ length rows.rows = grind (arith, nat_tests) in
    record {
      sound = record { arrays = types.0; rows = types.1; paired = paired };
      within = λ i h.
          let n : i < length (numbers_of arrays.rows) = omega (arith, length_numbers arrays.rows) in
          let m : i < length (numbers_of rows.rows) = omega (arith, length_numbers rows.rows) in
          (within_at 0 (length lens) (numbers_of arrays.rows) i (not_false _ c.0) n, row_below (numbers_of arrays.rows) (numbers_of rows.rows) lens i (not_false _ d.0) n m);
    }

-- ---- and the other way round

names_all : (hi : ℕ) (xs : List ℕ) → ((i : ℕ) → i < length xs → slice_index xs i < hi) → all_within 0 (Some hi) xs ≡ true
names_all hi [] h = refl
names_all hi (x ∷ xs) h =
    let first : x < hi = h 0 (omega arith) in
    let low : nat_le 0 x ≡ true = grind arith in
    let high : nat_lt x hi ≡ true = grind arith in
    rw (low, high) (names_all hi xs (λ i k. h (suc i) (omega arith)))

rows_all : (ns rs ls : List ℕ) → length ns ≡ length rs → ((i : ℕ) → i < length ns → slice_index rs i < slice_index ls (slice_index ns i)) → selectors_within ns rs ls ≡ true
rows_all [] rs ls e h = refl
rows_all (n ∷ ns) [] ls e h = absurd (omega arith)
rows_all (n ∷ ns) (r ∷ rs) ls e h =
    let first : r < slice_index ls n = h 0 (omega arith) in
    let here : nat_lt r (slice_index ls n) ≡ true = grind arith in
    rw here (rows_all ns rs ls (omega arith) (λ i k. h (suc i) (omega arith)))

-- selectors that keep all this break no rule
pub clean : (arrays rows : Flat) (lens : List ℕ) → IsSelection (selection arrays rows) → AreWithin (selection arrays rows) lens → selector_fault arrays rows lens ≡ None
unfolding first_broken
clean arrays rows lens k w =
    let long = length_numbers arrays.rows in
    let size = length_numbers rows.rows in
    let paired = k.paired in
    let alike : (length arrays.rows == length rows.rows) ≡ true = grind (arith, nat_tests) in
    let named : all_within 0 (Some (length lens)) (numbers_of arrays.rows) ≡ true = names_all (length lens) (numbers_of arrays.rows) (λ i h. (w i (omega arith)).0) in
    let below : selectors_within (numbers_of arrays.rows) (numbers_of rows.rows) lens ≡ true = rows_all (numbers_of arrays.rows) (numbers_of rows.rows) lens (omega arith) (λ i h. (w i (omega arith)).1) in
    rw (k.arrays, k.rows, alike, named, below) refl
