-- What one halving search asks and answers. How the elements answer is a function of the place.
use Rattle.std.specs.Prelude.{◌≡◌, true, false, ℕ, zero, suc, ◌+◌, ◌-◌, ◌≤◌, ◌<◌, List, slice_index_or}
use Rattle.std.specs.declared.cmp.Ordering.{Ordering}
use Rattle.std.specs.declared.cmp.Ordering.TheVariants.{Less, Equal, Greater}
use Rattle.std.specs.Ordering.{ordering_index, is_lt}
use Rattle.vx_search.specs.Places.{power_from}
use Rattle.vx_search.specs.declared.result.SearchResult.{SearchResult}
use Rattle.vx_search.specs.declared.result.SearchResult.TheVariants.{Found, NotFound}
use Rattle.vx_search.specs.declared.result.SearchSortedSide.{SearchSortedSide}
use Rattle.vx_search.specs.declared.result.SearchSortedSide.TheVariants.{Left, Right}
use Rattle.vx_search.specs.declared.search.Question.{Question}
use Rattle.vx_search.specs.declared.search.Question.TheVariants.{Whole, Below, NotAbove}

-- the answer to a question, by how an element stands to the value
abbrev pub asked : Question → Ordering → Ordering
asked Whole o = o
asked Below Less = Less
asked Below Equal = Greater
asked Below Greater = Greater
asked NotAbove Less = Less
asked NotAbove Equal = Less
asked NotAbove Greater = Greater

-- the answer at a place
abbrev pub asked_at : Question → List Ordering → ℕ → Ordering
asked_at q os k = asked q (slice_index_or os k Less)

-- the answers do not fall below a place
abbrev pub Ascends : (ℕ → Ordering) → ℕ → Type 0
Ascends f n = (i j : ℕ) → i ≤ j → j < n → ordering_index (f i) ≤ ordering_index (f j)

abbrev pub AnswersFrom : (ℕ → Ordering) → Ordering → ℕ → ℕ → Type 0
AnswersFrom f o from to = (k : ℕ) → from ≤ k → k < to → f k ≡ o

-- what a halving search over the places from `from` to below `to` answers
abbrev pub IsWhere : (ℕ → Ordering) → ℕ → ℕ → SearchResult → Type 0
IsWhere f from to (Found i) = (from ≤ i) × (i < to) × (f i ≡ Equal)
IsWhere f from to (NotFound i) = (from ≤ i) × (i ≤ to) × AnswersFrom f Less from i × AnswersFrom f Greater i to

-- how often a search halves n places
abbrev pub log_up : ℕ → ℕ
log_up n = power_from n 0 n

-- how many questions a search over n places asks
abbrev pub rounds : ℕ → ℕ
rounds zero = 0
rounds (suc n) = log_up (suc n) + 1

-- the first place from a start on whose element is not less, or the end
abbrev pub IsFirstFrom : List Ordering → ℕ → ℕ → ℕ → Type 0
IsFirstFrom os start end i = (start ≤ i) × (i ≤ end) × ((k : ℕ) → start ≤ k → k < i → is_lt (slice_index_or os k Less) ≡ true) × (i < end → is_lt (slice_index_or os i Less) ≡ false)

-- `Less` below a border, and `Greater` from there on
pub record IsBorder (f : ℕ → Ordering) (n border : ℕ) : Type 0 where
  pub within : border ≤ n
  pub below : AnswersFrom f Less 0 border
  pub above : AnswersFrom f Greater border n

-- the border is not above the first equal place, or not below the last
abbrev pub EdgeOf : SearchSortedSide → (ℕ → Ordering) → ℕ → ℕ → Type 0
EdgeOf Left f n border = (k : ℕ) → k < n → f k ≡ Equal → border ≤ k
EdgeOf Right f n border = (k : ℕ) → k < n → f k ≡ Equal → k ≤ border

-- the border where a place is equal, and else how many are less
abbrev pub IsPlaceBy : (ℕ → Ordering) → ℕ → ℕ → SearchResult → Type 0
IsPlaceBy f n border (Found i) = (i ≡ border) × ((k : ℕ) × (k < n) × (f k ≡ Equal))
IsPlaceBy f n border (NotFound i) = (i ≤ n) × AnswersFrom f Less 0 i × AnswersFrom f Greater i n

-- how many places are on a side of one, with the place itself on the right
abbrev pub beside : SearchSortedSide → ℕ → ℕ → ℕ
beside Left n k = k
beside Right n k = n - k

-- where a place is equal, a search beside such a place is counted too
abbrev pub CountsAgain : (ℕ → Ordering) → SearchSortedSide → ℕ → ℕ → ℕ → SearchResult → Type 0
CountsAgain f side n old new (Found i) = (k : ℕ) × (k < n) × (f k ≡ Equal) × (old + rounds n + rounds (beside side n k) ≤ new)
CountsAgain f side n old new (NotFound i) = Unit {0}
