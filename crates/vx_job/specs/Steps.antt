-- What a step means on a flat list of rows, why it is refused, and what it may cost. The sources are the types and rows
-- of all parts, as they are opened.
use Rattle.std.specs.Prelude.{◌≡◌, ◌≤◌, ◌<◌, ◌⊎◌, ℕ, ◌*◌, List, [], ◌∷◌, length, slice_index, IsFalse}
use Rattle.std.specs.List.{slice_range, slice_get}
use Rattle.vx_rows.specs.Types.{is_nested}
use Rattle.vx_rows.specs.declared.dtype.DType.{DType}
use Rattle.vx_rows.specs.declared.error.ColumnError.{ColumnError}
use Rattle.vx_rows.specs.declared.error.ColumnError.TheVariants.{BadRange, OutOfBounds}
use Rattle.vx_rows.specs.Order.{row_cmp}
use Rattle.vx_base.specs.Column.{Flat, flat}
use Rattle.vx_masks.specs.Bits.{count_true}
use Rattle.vx_bulk.specs.Selections.{kept, picked as picked_where, joined_runs, masked}
use Rattle.vx_bulk.specs.Types.{taken_type, nullable}
use Rattle.vx_scalars.specs.Elementwise.{filled, filled_type, compared, compared_type}
use Rattle.vx_search.specs.Answers.{standing}
use Rattle.vx_search.specs.Places.{place}
use Rattle.vx_job.specs.declared.step.Step.{Step}
use Rattle.vx_job.specs.declared.step.Step.TheVariants.{Slice, Points, Filter, Take, Runs, Mask, Zip, Fill, Cast, Compare, Search, Contains}
use Rattle.vx_job.specs.declared.page.Answer.{Answer}
use Rattle.vx_job.specs.declared.page.Answer.TheVariants as answer
use Rattle.vx_job.specs.Rows.{picked}
use Rattle.vx_job.specs.Selections.{IsLengthError, IsTakeError, IsRunsError}
use Rattle.vx_job.specs.Elementwise.{IsNestedError, IsTypeError, IsFillError, IsCastError, IsZipError, zipped}
use Rattle.vx_job.specs.Lookups.{IsSearchError, IsContainsError, contained}

-- the type and the rows that a step leaves
abbrev pub step_leaves : List Flat → Flat → Step → Flat
step_leaves sources c (Slice start end) = flat c.dtype (slice_range c.rows start end)
step_leaves sources c (Points numbers keeps) = c
step_leaves sources c (Filter mask) = flat c.dtype (kept c.rows mask)
step_leaves sources c (Take indices) = flat (taken_type c.dtype indices) (picked_where c.rows indices)
step_leaves sources c (Runs runs len) = flat c.dtype (joined_runs c.rows runs)
step_leaves sources c (Mask mask) = flat (nullable c.dtype) (masked c.rows mask)
step_leaves sources c (Zip source choice) = zipped c (slice_get sources source) choice
step_leaves sources c (Fill value) = flat (filled_type c.dtype) (filled value.row c.rows)
step_leaves sources c (Cast target) = flat target c.rows
step_leaves sources c (Compare op value) = flat (compared_type c.dtype value.dtype) (compared op value.row c.rows)
step_leaves sources c (Search value side) = c
step_leaves sources c (Contains source) = c

-- the answer of a step, where it gives one
abbrev pub step_answers : List Flat → Flat → Step → List Answer
step_answers sources c (Slice start end) = []
step_answers sources c (Points numbers keeps) = answer.Rows (picked c.rows numbers) ∷ []
step_answers sources c (Filter mask) = []
step_answers sources c (Take indices) = []
step_answers sources c (Runs runs len) = []
step_answers sources c (Mask mask) = []
step_answers sources c (Zip source choice) = []
step_answers sources c (Fill value) = []
step_answers sources c (Cast target) = []
step_answers sources c (Compare op value) = []
step_answers sources c (Search value side) = answer.Place (place side (standing row_cmp c.rows value.row)) ∷ []
step_answers sources c (Contains source) = answer.Bits (contained c.rows (slice_get sources source)) ∷ []

-- each number that is named is that of a row
abbrev pub AreInside : ℕ → List ℕ → Type 0
AreInside len numbers = (k : ℕ) → k < length numbers → slice_index numbers k < len

-- a number that is named, and that no row has
abbrev pub IsPointsError : ℕ → List ℕ → ColumnError → Type 0
IsPointsError len numbers e = (k : ℕ) × (k < length numbers) × (e ≡ OutOfBounds (slice_index numbers k) len) × (len ≤ slice_index numbers k)

-- the errors that are true of a step, which has this number in its plan
abbrev pub IsStepError : List Flat → ℕ → Flat → Step → ColumnError → Type 0
IsStepError sources number c (Slice start end) e =
    ((e ≡ BadRange start end) × (end < start)) ⊎ ((e ≡ OutOfBounds end (length c.rows)) × (length c.rows < end))
IsStepError sources number c (Points numbers keeps) e = IsPointsError (length c.rows) numbers e
IsStepError sources number c (Filter mask) e = IsLengthError (length c.rows) (length mask) e
IsStepError sources number c (Take indices) e = IsTakeError (length c.rows) indices e
IsStepError sources number c (Runs runs len) e = IsRunsError (length c.rows) len runs e
IsStepError sources number c (Mask mask) e = IsLengthError (length c.rows) (length mask) e
IsStepError sources number c (Zip source choice) e = IsZipError source (slice_get sources source) c (length choice) e
IsStepError sources number c (Fill value) e = IsNestedError number c.dtype e ⊎ IsFillError c.dtype value e
IsStepError sources number c (Cast target) e = IsNestedError number c.dtype e ⊎ IsCastError c.dtype c.rows target e
IsStepError sources number c (Compare op value) e = IsNestedError number c.dtype e ⊎ IsTypeError c.dtype value.dtype e
IsStepError sources number c (Search value side) e = IsSearchError number c.dtype c.rows value.dtype e
IsStepError sources number c (Contains source) e = IsContainsError source (slice_get sources source) c.dtype e

-- no error is true of a step
abbrev pub IsFree : List Flat → ℕ → Flat → Step → Type 0
IsFree sources number c step = (e : ColumnError) → IsStepError sources number c step e → ⊥

-- the steps whose reads have a bound, over a column of a type
abbrev pub HasBound : DType → Step → Type 0
HasBound t (Slice start end) = Unit {0}
HasBound t (Points numbers keeps) = Unit {0}
HasBound t (Filter mask) = IsFalse (is_nested t)
HasBound t (Take indices) = IsFalse (is_nested t)
HasBound t (Runs runs len) = IsFalse (is_nested t)
HasBound t (Mask mask) = ⊥
HasBound t (Zip source choice) = ⊥
HasBound t (Fill value) = ⊥
HasBound t (Cast target) = ⊥
HasBound t (Compare op value) = ⊥
HasBound t (Search value side) = ⊥
HasBound t (Contains source) = ⊥

-- that bound, by the cost of a read and of n rows of a selection: four reads a slice, one for each row that is named, and
-- a selection of as many rows as a step gives; no bound is claimed of the other steps
abbrev pub step_cost : ℕ → (ℕ → ℕ) → Step → ℕ
step_cost point select (Slice start end) = 4 * point
step_cost point select (Points numbers keeps) = length numbers * point
step_cost point select (Filter mask) = select (count_true mask)
step_cost point select (Take indices) = select (length indices)
step_cost point select (Runs runs len) = select len
step_cost point select (Mask mask) = 0
step_cost point select (Zip source choice) = 0
step_cost point select (Fill value) = 0
step_cost point select (Cast target) = 0
step_cost point select (Compare op value) = 0
step_cost point select (Search value side) = 0
step_cost point select (Contains source) = 0
