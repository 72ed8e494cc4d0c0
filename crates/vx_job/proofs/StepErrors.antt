-- A step is free, or some error is true of it.
use Rattle.std.proofs.Common.{◌≢◌, ◌⊎◌, inl, inr, ℕ, zero, suc, ◌≤◌, ◌<◌, List, [], ◌∷◌, length, get_or, refl, arith, Bool}
use Rattle.std.specs.List.{slice_get}
use Rattle.std.proofs.lemmas.Bool.{cases_lt}
use Rattle.vx_rows.specs.declared.error.ColumnError.{ColumnError}
use Rattle.vx_rows.specs.declared.error.ColumnError.TheVariants.{OutOfMemory, BadRange, OutOfBounds}
use Rattle.vx_base.specs.Column.{Flat}
use Rattle.vx_job.specs.declared.step.Step.{Step}
use Rattle.vx_job.specs.declared.step.Step.TheVariants.{Slice, Points, Filter, Take, Runs, Mask, Zip, Fill, Cast, Compare, Search, Contains}
use Rattle.vx_job.specs.Steps.{IsFree, AreInside, IsPointsError}
use Rattle.vx_job.specs.Laws.{HasError}
use Rattle.vx_job.proofs.SelectionErrors.{length_judged, take_judged, runs_judged}
use Rattle.vx_job.proofs.ElementwiseErrors.{zip_judged, fill_judged, cast_judged, compare_judged}
use Rattle.vx_job.proofs.LookupErrors.{search_judged, contains_judged}

abbrev Judged : List Flat → ℕ → Flat → Step → Type 0
Judged sources number c step = IsFree sources number c step ⊎ HasError sources number c step

no_range : (s t : ℕ) → BadRange s t ≢ OutOfMemory
no_range s t h = cc

no_bounds : (i n : ℕ) → OutOfBounds i n ≢ OutOfMemory
no_bounds i n h = cc

-- a range in order, of rows that there are, has no error
pub slice_free : (sources : List Flat) (number : ℕ) (c : Flat) (start end : ℕ) → start ≤ end → end ≤ length c.rows → IsFree sources number c (Slice start end)
slice_free sources number c start end h k e (inl range) = let a = range.1 in omega arith
slice_free sources number c start end h k e (inr bounds) = let a = bounds.1 in omega arith

slice_judged : (sources : List Flat) (number : ℕ) (c : Flat) (start end : ℕ) → Judged sources number c (Slice start end)
slice_judged sources number c start end = by_order (cases_lt end start) (cases_lt (length c.rows) end)
  where
    by_order : (end < start) ⊎ (start ≤ end) → (length c.rows < end) ⊎ (end ≤ length c.rows) → Judged sources number c (Slice start end)
    by_order (inl h) k = inr (BadRange start end, no_range start end, inl (refl, h))
    by_order (inr h) (inl k) = inr (OutOfBounds end (length c.rows), no_bounds end (length c.rows), inr (refl, k))
    by_order (inr h) (inr k) = inl (slice_free sources number c start end h k)

-- some number is that of no row
abbrev IsSomePast : ℕ → List ℕ → Type 0
IsSomePast len numbers = (k : ℕ) × (k < length numbers) × (len ≤ get_or numbers k 0)

numbers_judged : (len : ℕ) (numbers : List ℕ) → AreInside len numbers ⊎ IsSomePast len numbers
numbers_judged len [] = inl (λ k h. absurd (omega arith))
numbers_judged len (n ∷ ns) = by_first (cases_lt n len) (numbers_judged len ns)
  where
    both : n < len → AreInside len ns → AreInside len (n ∷ ns)
    both h all zero short = h
    both h all (suc k) short = all k (omega arith)

    by_first : (n < len) ⊎ (len ≤ n) → AreInside len ns ⊎ IsSomePast len ns → AreInside len (n ∷ ns) ⊎ IsSomePast len (n ∷ ns)
    by_first (inr past) rest = inr (0, omega arith, past)
    by_first (inl h) (inl all) = inl (both h all)
    by_first (inl h) (inr (k, short, past)) = inr (suc k, omega arith, past)

-- numbers of rows have no error
pub inside_free : (len : ℕ) (numbers : List ℕ) (e : ColumnError) → AreInside len numbers → IsPointsError len numbers e → ⊥
inside_free len numbers e all (k, short, same, past) = let inside = all k short in omega arith

points_judged : (sources : List Flat) (number : ℕ) (c : Flat) (numbers : List ℕ) (kept : Bool) → Judged sources number c (Points numbers kept)
points_judged sources number c numbers kept = by (numbers_judged (length c.rows) numbers)
  where
    by : AreInside (length c.rows) numbers ⊎ IsSomePast (length c.rows) numbers → Judged sources number c (Points numbers kept)
    by (inl all) = inl (λ e. inside_free (length c.rows) numbers e all)
    by (inr (k, short, past)) = inr (OutOfBounds (get_or numbers k 0) (length c.rows), no_bounds (get_or numbers k 0) (length c.rows), (k, short, refl, past))

pub step_judged : (sources : List Flat) (number : ℕ) (c : Flat) (step : Step) → Judged sources number c step
step_judged sources number c (Slice start end) = slice_judged sources number c start end
step_judged sources number c (Points numbers kept) = points_judged sources number c numbers kept
step_judged sources number c (Filter mask) = length_judged (length c.rows) (length mask)
step_judged sources number c (Take indices) = take_judged (length c.rows) indices
step_judged sources number c (Runs runs len) = runs_judged (length c.rows) len runs
step_judged sources number c (Mask mask) = length_judged (length c.rows) (length mask)
step_judged sources number c (Zip source choice) = zip_judged source (slice_get sources source) c (length choice)
step_judged sources number c (Fill value) = fill_judged number c.dtype value
step_judged sources number c (Cast target) = cast_judged number c.dtype c.rows target
step_judged sources number c (Compare op value) = compare_judged number c.dtype value.dtype
step_judged sources number c (Search value side) = search_judged number c.dtype c.rows value.dtype
step_judged sources number c (Contains source) = contains_judged source (slice_get sources source) c.dtype
