-- Rows by the number of a list and of a row in it.
use Rattle.std.specs.Prelude.{◌≡◌, ◌<◌, ◌≤◌, ◌+◌, ◌==◌, ℕ, List, [], map, length, get_or, Option, None, IsTrue}
use Rattle.std.specs.List.Sorted.{IsStrictlyIncreasing}
use Rattle.std.specs.List.{All, filter}
use Rattle.vx_rows.specs.Fits.{row_fits}
use Rattle.vx_rows.specs.declared.dtype.DType.{DType}
use Rattle.vx_rows.specs.declared.value.Value.{Value}
use Rattle.vx_job.specs.Rows.{Rows, interleaved, picked}

abbrev pub Lists : Type 0
Lists = List Rows

-- the number of a list and of a row in it
abbrev pub Spot : Type 0
Spot = ℕ × ℕ

-- each place is below the number
abbrev pub AreBelow : ℕ → List ℕ → Type 0
AreBelow n places = All (λ p. p < n) places

-- the places from a start to below an end, which is no more than n
abbrev pub IsRangeOf : ℕ → ℕ × ℕ → Type 0
IsRangeOf n range = (range.0 ≤ range.1) × (range.1 ≤ n)

-- what is wanted of list k, in order
abbrev pub wanted : ℕ → List Spot → List ℕ
wanted k spots = map (λ s. s.1) (filter (λ s. s.0 == k) spots)

-- lists of what is wanted of each of so many
abbrev pub AreWanted : List Spot → ℕ → List (List ℕ) → Type 0
AreWanted spots count lists = (length lists ≡ count) × ((k : ℕ) → k < count → get_or lists k [] ≡ wanted k spots)

-- the rows that are wanted of each list
abbrev pub AreAnswers : Lists → List Spot → Lists → Type 0
AreAnswers values spots answers = (k : ℕ) → k < length answers → get_or answers k [] ≡ picked (get_or values k []) (wanted k spots)

-- the rows that are wanted of each of the first so many lists
abbrev pub AreAnswersOf : Lists → List Spot → ℕ → Lists → Type 0
AreAnswersOf values spots count answers = (length answers ≡ count) × AreAnswers values spots answers

-- the rows are those that are wanted of some lists
abbrev pub HaveAnswers : List Spot → Lists → Type 0
HaveAnswers spots answers = (values : Lists) × AreAnswers values spots answers

-- the spot is there
abbrev pub IsThere : Lists → Spot → Type 0
IsThere values s = (s.0 < length values) × (s.1 < length (get_or values s.0 []))

-- the spot is there, and its row is row `place`
pub record IsSpotOf (values : Lists) (rows : Rows) (place : ℕ) (spot : Spot) : Type 0 where
  pub there : IsThere values spot
  pub row : get_or (get_or values spot.0 []) spot.1 None ≡ get_or rows place None

-- the spots are there, and their rows are those at the places
pub record AreSpotsOf (values : Lists) (all : Rows) (places : List ℕ) (spots : List Spot) : Type 0 where
  pub there : All (IsThere values) spots
  pub rows : interleaved values spots ≡ picked all places

-- no place is below the one before it
abbrev pub NeverFall : List ℕ → Type 0
NeverFall places = (k : ℕ) → k + 1 < length places → get_or places k 0 ≤ get_or places (k + 1) 0

-- the list of a spot by its number, where the spot names it by the number's place
abbrev pub named_by : List ℕ → Spot → Spot
named_by numbers s = (get_or numbers s.0 0, s.1)

-- some of so many lists, by rising numbers, which hold all spots, and the spots by the places of these numbers
pub record AreTouched (count : ℕ) (spots : List Spot) (numbers : List ℕ) (among : List Spot) : Type 0 where
  pub rising : IsStrictlyIncreasing numbers
  pub below : AreBelow count numbers
  pub there : All (λ s. s.0 < length numbers) among
  pub same : map (named_by numbers) among ≡ spots

-- each row that fits one type fits the other
abbrev pub FitsToo : DType → DType → Type 0
FitsToo s t = (row : Option Value) → IsTrue (row_fits s row) → IsTrue (row_fits t row)
