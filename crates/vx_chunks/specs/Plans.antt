-- What a plan of a slice says of chunks of these lengths.
use Rattle.std.specs.Prelude.{ℕ, ◌+◌, ◌<◌, ◌≤◌, ◌≡◌, List, length, take, slice_index}
use Rattle.vx_chunks.specs.Bounds.{total}
use Rattle.vx_chunks.specs.declared.plan.SlicePlan.{SlicePlan}
use Rattle.vx_chunks.specs.declared.plan.SlicePlan.TheVariants.{Whole, Empty, One, Many}

-- where rows start to below end lie: from a place in the first chunk to below a place in the last
pub record IsSpan (lens : List ℕ) (start end first first_start last last_end : ℕ) : Type 0 where
  pub ordered : first ≤ last
  pub within : last < length lens
  pub front : total (take first lens) + first_start ≡ start
  pub back : total (take last lens) + last_end ≡ end
  pub front_within : first_start ≤ slice_index lens first
  pub back_within : last_end ≤ slice_index lens last
  pub back_full : end ≡ total lens → last_end ≡ slice_index lens last

-- all rows
abbrev pub IsFull : List ℕ → ℕ → ℕ → Type 0
IsFull lens start end = (start ≡ 0) × (end ≡ total lens)

-- some rows, and not all
abbrev pub IsPart : List ℕ → ℕ → ℕ → Type 0
IsPart lens start end = (start < end) × (IsFull lens start end → ⊥)

-- the pieces are rows start to below end
abbrev pub IsPlanOf : List ℕ → ℕ → ℕ → SlicePlan → Type 0
IsPlanOf lens start end Whole = IsFull lens start end
IsPlanOf lens start end Empty = (start ≡ end) × (IsFull lens start end → ⊥)
IsPlanOf lens start end (One chunk from to) = IsPart lens start end × IsSpan lens start end chunk from chunk to
IsPlanOf lens start end (Many first first_start last last_end) =
    IsPart lens start end × (first < last) × IsSpan lens start end first first_start last last_end
