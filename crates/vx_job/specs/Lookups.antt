-- What the steps answer that look values up, and why they are refused.
use Rattle.std.specs.Prelude.{◌≡◌, ◌⊎◌, ℕ, ◌+◌, ◌<◌, List, [], length, get_or, Bool, Option, Some, None}
use Rattle.std.specs.declared.cmp.Ordering.TheVariants.{Greater}
use Rattle.vx_rows.specs.Order.{row_cmp}
use Rattle.vx_rows.specs.declared.dtype.DType.{DType}
use Rattle.vx_rows.specs.declared.error.ColumnError.{ColumnError}
use Rattle.vx_rows.specs.declared.error.ColumnError.TheVariants.{Unsorted, UnknownColumn}
use Rattle.vx_base.specs.Column.{Flat}
use Rattle.vx_scalars.specs.Membership.{memberships}
use Rattle.vx_job.specs.Rows.{Rows}
use Rattle.vx_job.specs.Elementwise.{IsNestedError, IsTypeError}

-- the row of this number has a successor, and is above it
abbrev pub FallsAt : Rows → ℕ → Type 0
FallsAt rows i = (i + 1 < length rows) × (row_cmp (get_or rows i None) (get_or rows (i + 1) None) ≡ Greater)

-- no row is above its successor
abbrev pub IsAscending : Rows → Type 0
IsAscending rows = (i : ℕ) → FallsAt rows i → ⊥

-- some row is above its successor
abbrev pub IsOrderError : Rows → ColumnError → Type 0
IsOrderError rows e = (e ≡ Unsorted) × ((i : ℕ) × FallsAt rows i)

-- rows of a type can't be searched for a value of another: the rows are nested, the types aren't alike, or the rows aren't
-- sorted
abbrev pub IsSearchError : ℕ → DType → Rows → DType → ColumnError → Type 0
IsSearchError number t rows other e = IsNestedError number t e ⊎ (IsTypeError t other e ⊎ IsOrderError rows e)

-- there is no source of this number, or it is of a type that isn't alike
abbrev pub IsContainsError : ℕ → Option Flat → DType → ColumnError → Type 0
IsContainsError source None t e = e ≡ UnknownColumn source
IsContainsError source (Some other) t e = IsTypeError t other.dtype e

-- for each row whether it is among those of the source, where there is one
abbrev pub contained : Rows → Option Flat → List (Option Bool)
contained rows None = []
contained rows (Some other) = memberships other.rows rows
