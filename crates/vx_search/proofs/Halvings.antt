-- Steps of a halving search, over how each place answers.
use Rattle.std.proofs.Common.{◌≡◌, ℕ, ◌+◌, ◌-◌, ◌≤◌, ◌<◌, refl, sym, ap, arith, inl, inr, ◌≢◌, Bool, true, false, not, ◌==◌, ◌∙◌, true≢false}
use Rattle.std.proofs.lemmas.Bool.{cases_lt}
use Rattle.std.specs.declared.cmp.Ordering.{Ordering}
use Rattle.std.specs.declared.cmp.Ordering.TheVariants.{Less, Equal, Greater}
use Rattle.std.specs.Ordering.{ordering_index}
use Rattle.vx_search.specs.Halving.{Ascends, AnswersFrom, IsWhere}
use Rattle.vx_search.specs.declared.result.SearchResult.TheVariants.{Found, NotFound}

is_greater : (o : Ordering) → 2 ≤ ordering_index o → o ≡ Greater
is_greater Less h = absurd (omega arith)
is_greater Equal h = absurd (omega arith)
is_greater Greater h = refl

is_less : (o : Ordering) → ordering_index o ≤ 0 → o ≡ Less
is_less Less h = refl
is_less Equal h = absurd (omega arith)
is_less Greater h = absurd (omega arith)

not_greater : (o : Ordering) → o ≢ Greater → ordering_index o ≤ 1
not_greater Less h = omega arith
not_greater Equal h = omega arith
not_greater Greater h = absurd (h refl)

greater_on : (f : ℕ → Ordering) (n : ℕ) → Ascends f n → (i j : ℕ) → i ≤ j → j < n → f i ≡ Greater → f j ≡ Greater
greater_on f n up i j h k e = is_greater (f j) (omega (arith, up i j h k, ap ordering_index e))

less_before : (f : ℕ → Ordering) (n : ℕ) → Ascends f n → (i j : ℕ) → i ≤ j → j < n → f j ≡ Less → f i ≡ Less
less_before f n up i j h k e = is_less (f i) (omega (arith, up i j h k, ap ordering_index e))

-- how far a halving search has come
pub record IsHalved (f : ℕ → Ordering) (from to base size : ℕ) : Type 0 where
  pub front : from ≤ base
  pub back : base + size ≤ to
  pub some : 0 < size
  pub low : from < base → ordering_index (f base) ≤ 1
  pub high : AnswersFrom f Greater (base + size) to

pub halved_start : (f : ℕ → Ordering) (from to : ℕ) → from < to → IsHalved f from to from (to - from)
halved_start f from to h = record { front = omega arith; back = omega arith; some = omega arith; low = λ e. absurd (omega arith); high = λ k a b. absurd (omega arith) }

pub halved_up : (f : ℕ → Ordering) (from to base size half : ℕ) → IsHalved f from to base size → half + half ≤ size → 0 < half → f (base + half) ≢ Greater
    → IsHalved f from to (base + half) (size - half)
halved_up f from to base size half s h p e = record {
  front = omega arith;
  back = omega arith;
  some = omega arith;
  low = λ _. not_greater (f (base + half)) e;
  high = λ k a b. s.high k (omega arith) b;
}

pub halved_down : (f : ℕ → Ordering) (from to base size half : ℕ) → Ascends f to → IsHalved f from to base size → half + half ≤ size → 0 < half → f (base + half) ≡ Greater
    → IsHalved f from to base (size - half)
halved_down f from to base size half up s h p e = record {
  front = omega arith;
  back = omega arith;
  some = omega arith;
  low = s.low;
  high = λ k a b. greater_on f to up (base + half) k (omega arith) b e;
}

pub found_here : (f : ℕ → Ordering) (from to base size : ℕ) → IsHalved f from to base size → f base ≡ Equal → IsWhere f from to (Found base)
found_here f from to base size s e = (omega arith, omega arith, e)

pub behind_it : (f : ℕ → Ordering) (from to base size : ℕ) → Ascends f to → IsHalved f from to base size → size ≤ 1 → f base ≡ Less → IsWhere f from to (NotFound (base + 1))
behind_it f from to base size up s one e =
    (omega arith, omega arith, λ k a b. less_before f to up k base (omega arith) (omega arith) e, λ k a b. s.high k (omega arith) b)

pub before_it : (f : ℕ → Ordering) (from to base size : ℕ) → Ascends f to → IsHalved f from to base size → f base ≡ Greater → IsWhere f from to (NotFound base)
before_it f from to base size up s e =
    let at_front : base ≤ from = elim (cases_lt from base) as (λ _. base ≤ from) [ inl h ↦ absurd (omega (arith, s.low h, ap ordering_index e)) | inr h ↦ h ] in
    (omega arith, omega arith, λ k a b. absurd (omega arith), λ k a b. greater_on f to up base k a b e)

-- what a test against `Greater` tells
pub passed : (o : Ordering) (r : Bool) → r ≡ not (ordering_index o == 2) → r ≡ true → o ≢ Greater
passed Less r e t = λ h. cc
passed Equal r e t = λ h. cc
passed Greater r e t = absurd (true≢false (sym t ∙ e))

pub failed : (o : Ordering) (r : Bool) → r ≡ not (ordering_index o == 2) → r ≡ false → o ≡ Greater
failed Less r e t = absurd (true≢false (sym e ∙ t))
failed Equal r e t = absurd (true≢false (sym e ∙ t))
failed Greater r e t = refl
