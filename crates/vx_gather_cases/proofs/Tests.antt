-- What the tests of a case tell.
use Rattle.std.proofs.Common.{ℕ, zero, suc, ◌≡◌, ◌<◌, ◌≤◌, ◌+◌, ◌-◌, ap, sym, ◌∙◌, subst, arith, inl, inr, List, [], ◌∷◌, length, get_or}
use Rattle.std.proofs.lemmas.Bool.{cases_lt}
use Rattle.vx_rows.specs.Types.{AlikeTypes}
use Rattle.vx_base.specs.Column.{Flat}
use Rattle.vx_interleave_gather.specs.Gathered.{AreAlike, types_of}

-- two columns are alike where the second is like the first
pub two_alike : (first second : Flat) (both : List Flat) → both ≡ first ∷ second ∷ [] → AlikeTypes second.dtype first.dtype → AreAlike (types_of both)
two_alike first second both e a = subst (λ (xs : List Flat). AreAlike (types_of xs)) (sym e) (by a)
  where
    by : AlikeTypes second.dtype first.dtype → AreAlike (types_of (first ∷ second ∷ []))
    by a zero d h = a
    by a (suc k) d h = absurd (omega arith)

-- numbers that rise, one more
pub rising_more : (xs : List ℕ) (i : ℕ) → 0 < i → ((a b : ℕ) → a < b → b < i → get_or xs a 0 < get_or xs b 0) → get_or xs (i - 1) 0 < get_or xs i 0 → (a b : ℕ) → a < b → b < i + 1 → get_or xs a 0 < get_or xs b 0
rising_more xs i some up last a b h w =
    elim (cases_lt b i) as (λ _. get_or xs a 0 < get_or xs b 0) [
      | inl below ↦ up a b h below
      | inr above ↦
          let here : b ≡ i = omega arith in
          elim (cases_lt a (i - 1)) as (λ _. get_or xs a 0 < get_or xs b 0) [
            | inl less ↦ let r : get_or xs a 0 < get_or xs (i - 1) 0 = up a (i - 1) less (omega arith) in omega (arith, r, last, ap (λ n. get_or xs n 0) here)
            | inr more ↦ let before : a ≡ i - 1 = omega arith in omega (arith, last, ap (λ n. get_or xs n 0) here, ap (λ n. get_or xs n 0) before)
          ]
    ]
