-- A selection of rows is free, or some error is true of it.
use Rattle.std.proofs.Common.{◌≡◌, ◌≢◌, ◌⊎◌, inl, inr, ℕ, zero, suc, ◌+◌, ◌-◌, ◌^◌, ◌≤◌, ◌<◌, min, List, [], ◌∷◌, refl, arith, Option, Some, None}
use Rattle.std.specs.List.{All, Contains}
use Rattle.std.proofs.lemmas.Bool.{cases_lt, cases_eq}
use Rattle.std.proofs.lemmas.List.Elements.{All-contains}
use Rattle.vx_rows.specs.declared.error.ColumnError.{ColumnError}
use Rattle.vx_rows.specs.declared.error.ColumnError.TheVariants.{OutOfMemory, LengthMismatch, OutOfBounds}
use Rattle.vx_bulk.specs.Selections.{IsWithin, IsInside}
use Rattle.vx_job.specs.Selections.{IsLengthError, IsBeyond, IsTakeError, run_total, IsRunBeyond, IsRunsError}

-- some error, which isn't running out of memory
abbrev pub SomeOf : (ColumnError → Type 0) → Type 0
SomeOf Error = (e : ColumnError) × (e ≢ OutOfMemory) × Error e

-- there is no error
abbrev pub NoneOf : (ColumnError → Type 0) → Type 0
NoneOf Error = (e : ColumnError) → Error e → ⊥

no_length : (m n : ℕ) → LengthMismatch m n ≢ OutOfMemory
no_length m n h = cc

no_bounds : (i n : ℕ) → OutOfBounds i n ≢ OutOfMemory
no_bounds i n h = cc

-- ---- lengths

-- a list as long as the rows has no error
pub length_free : (len found : ℕ) → found ≡ len → NoneOf (IsLengthError len found)
length_free len found same e error = error.1 same

pub length_judged : (len found : ℕ) → NoneOf (IsLengthError len found) ⊎ SomeOf (IsLengthError len found)
length_judged len found = by (cases_eq found len)
  where
    by : (found ≡ len) ⊎ (found ≢ len) → NoneOf (IsLengthError len found) ⊎ SomeOf (IsLengthError len found)
    by (inl same) = inl (length_free len found same)
    by (inr differ) = inr (LengthMismatch len found, no_length len found, (refl, differ))

-- ---- elements

-- an element has the error
abbrev Among : {A : Type 0} → (A → ColumnError → Type 0) → List A → ColumnError → Type 0
Among {A} Has xs e = (x : A) × (Contains xs x × Has x e)

-- each element passes, or one of them has an error
elements_judged : {A : Type 0} (Passes : A → Type 0) (Has : A → ColumnError → Type 0) → ((x : A) → Passes x ⊎ SomeOf (Has x)) → (xs : List A) → All Passes xs ⊎ SomeOf (Among Has xs)
elements_judged Passes Has judged [] = inl (λ k d h. absurd (omega arith))
elements_judged Passes Has judged (x ∷ xs) = by (judged x) (elements_judged Passes Has judged xs)
  where
    both : Passes x → All Passes xs → All Passes (x ∷ xs)
    both p all zero d h = p
    both p all (suc k) d h = all k d (omega arith)

    by : Passes x ⊎ SomeOf (Has x) → All Passes xs ⊎ SomeOf (Among Has xs) → All Passes (x ∷ xs) ⊎ SomeOf (Among Has (x ∷ xs))
    by (inr (e, other, has)) rest = inr (e, other, (x, ((0, omega arith, refl), has)))
    by (inl p) (inl all) = inl (both p all)
    by (inl p) (inr (e, other, (y, ((k, short, at), has)))) = inr (e, other, (y, ((suc k, omega arith, at), has)))

-- ---- indices

not_beyond : (len : ℕ) (index : Option ℕ) → IsWithin len index → NoneOf (IsBeyond len index)
not_beyond len None within e beyond = beyond
not_beyond len (Some index) within e beyond = let past = beyond.1 in omega arith

index_judged : (len : ℕ) (index : Option ℕ) → IsWithin len index ⊎ SomeOf (IsBeyond len index)
index_judged len None = inl tt
index_judged len (Some index) = by (cases_lt index len)
  where
    by : (index < len) ⊎ (len ≤ index) → IsWithin len (Some index) ⊎ SomeOf (IsBeyond len (Some index))
    by (inl h) = inl h
    by (inr past) = inr (OutOfBounds index len, no_bounds index len, (refl, past))

-- indices of rows, and absent ones, have no error
pub take_free : (len : ℕ) (indices : List (Option ℕ)) → All (IsWithin len) indices → NoneOf (IsTakeError len indices)
take_free len indices all e (index, (among, beyond)) = not_beyond len index (All-contains (IsWithin len) indices index all among) e beyond

pub take_judged : (len : ℕ) (indices : List (Option ℕ)) → NoneOf (IsTakeError len indices) ⊎ SomeOf (IsTakeError len indices)
take_judged len indices = by (elements_judged (IsWithin len) (IsBeyond len) (index_judged len) indices)
  where
    by : All (IsWithin len) indices ⊎ SomeOf (IsTakeError len indices) → NoneOf (IsTakeError len indices) ⊎ SomeOf (IsTakeError len indices)
    by (inl all) = inl (take_free len indices all)
    by (inr error) = inr error

-- ---- runs

not_past : (len : ℕ) (run : ℕ × ℕ) → IsInside len run → NoneOf (IsRunBeyond len run)
not_past len run inside e (some, past, same) = let within = inside some in omega arith

run_judged : (len : ℕ) (run : ℕ × ℕ) → IsInside len run ⊎ SomeOf (IsRunBeyond len run)
run_judged len run = by (cases_lt 0 run.1) (cases_lt len (run.0 + run.1))
  where
    last : ℕ
    last = min (run.0 + (run.1 - 1)) (2 ^ 64 - 1)

    by : (0 < run.1) ⊎ (run.1 ≤ 0) → (len < run.0 + run.1) ⊎ (run.0 + run.1 ≤ len) → IsInside len run ⊎ SomeOf (IsRunBeyond len run)
    by (inr empty) past = inl (λ some. absurd (omega arith))
    by (inl some) (inr within) = inl (λ _. within)
    by (inl some) (inl past) = inr (OutOfBounds last len, no_bounds last len, (some, past, refl))

-- runs of rows, and empty ones, of the declared sum have no error
pub runs_free : (len declared : ℕ) (runs : List (ℕ × ℕ)) → run_total runs ≡ declared → All (IsInside len) runs → NoneOf (IsRunsError len declared runs)
runs_free len declared runs sum all e (inl differ) = differ.1 sum
runs_free len declared runs sum all e (inr (run, (among, beyond))) = not_past len run (All-contains (IsInside len) runs run all among) e beyond

pub runs_judged : (len declared : ℕ) (runs : List (ℕ × ℕ)) → NoneOf (IsRunsError len declared runs) ⊎ SomeOf (IsRunsError len declared runs)
runs_judged len declared runs = by (cases_eq (run_total runs) declared) (elements_judged (IsInside len) (IsRunBeyond len) (run_judged len) runs)
  where
    told : ℕ
    told = min (run_total runs) (2 ^ 64 - 1)

    by : (run_total runs ≡ declared) ⊎ (run_total runs ≢ declared) → All (IsInside len) runs ⊎ SomeOf (Among (IsRunBeyond len) runs)
        → NoneOf (IsRunsError len declared runs) ⊎ SomeOf (IsRunsError len declared runs)
    by (inr differ) rest = inr (LengthMismatch declared told, no_length declared told, inl (refl, differ))
    by (inl sum) (inl all) = inl (runs_free len declared runs sum all)
    by (inl sum) (inr (e, other, beyond)) = inr (e, other, inr beyond)
