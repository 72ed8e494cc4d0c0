-- From where the two searches by closures end to the place.
use Rattle.std.proofs.Common.{◌≡◌, ℕ, ◌≤◌, ap, arith, inl, inr}
use Rattle.std.proofs.lemmas.Bool.{cases_lt}
use Rattle.std.specs.declared.cmp.Ordering.{Ordering}
use Rattle.std.specs.Ordering.{ordering_index}
use Rattle.vx_search.specs.Places.{index_of}
use Rattle.vx_search.specs.Halving.{Ascends, IsWhere, IsBorder, EdgeOf}
use Rattle.vx_search.specs.declared.result.SearchResult.{SearchResult}
use Rattle.vx_search.specs.declared.result.SearchSortedSide.{SearchSortedSide}
use Rattle.vx_search.specs.declared.result.SearchSortedSide.TheVariants.{Left, Right}
use Rattle.vx_search.specs.declared.result.SearchResult.TheVariants.{Found, NotFound}

at_index : (o p : Ordering) → o ≡ p → ordering_index o ≡ ordering_index p
at_index o p e = ap ordering_index e

pub border_ascends : (s : ℕ → Ordering) (n border : ℕ) → IsBorder s n border → (m : ℕ) → m ≤ n → Ascends s m
border_ascends s n border b m h i j p q =
    elim (cases_lt i border) as (λ _. ordering_index (s i) ≤ ordering_index (s j)) [
      | inl low ↦ omega (arith, ap ordering_index (b.below i (omega arith) low))
      | inr high ↦ omega (arith, ap ordering_index (b.above i high (omega arith)), ap ordering_index (b.above j (omega arith) (omega arith)))
    ]

-- the end of a search from `from` to `to` that holds the border
pub at_border : (s : ℕ → Ordering) (n border from to : ℕ) (r : SearchResult) → IsBorder s n border → from ≤ border → border ≤ to → to ≤ n → IsWhere s from to r → index_of r ≡ border
at_border s n border from to (Found i) b low high top w =
    elim (cases_lt i border) as (λ _. i ≡ border) [
      | inl less ↦ absurd (omega (arith, ap ordering_index (b.below i (omega arith) less), ap ordering_index w.2))
      | inr more ↦ absurd (omega (arith, ap ordering_index (b.above i more (omega (arith, w.1))), ap ordering_index w.2))
    ]
at_border s n border from to (NotFound i) b low high top w =
    elim (cases_lt i border) as (λ _. i ≡ border) [
      | inl less ↦ absurd (omega (arith, ap ordering_index (b.below i (omega arith) less), ap ordering_index (w.3 i (omega arith) (omega arith))))
      | inr more ↦ elim (cases_lt border i) as (λ _. i ≡ border) [
        | inl over ↦ absurd (omega (arith, ap ordering_index (b.above border (omega arith) (omega (arith, w.1))), ap ordering_index (w.2 border low over)))
        | inr same ↦ omega arith
      ]
    ]

pub inside_left : (f : ℕ → Ordering) (n border found : ℕ) (side : SearchSortedSide) → side ≡ Left → EdgeOf side f n border → IsWhere f 0 n (Found found) → border ≤ found
inside_left f n border found Left e h w = h found w.1 w.2
inside_left f n border found Right e h w = absurd (cc)

pub inside_right : (f : ℕ → Ordering) (n border found : ℕ) (side : SearchSortedSide) → side ≡ Right → EdgeOf side f n border → IsWhere f 0 n (Found found) → found ≤ border
inside_right f n border found Left e h w = absurd (cc)
inside_right f n border found Right e h w = h found w.1 w.2
