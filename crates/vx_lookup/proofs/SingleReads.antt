-- What a read of a row that is there may refuse.
use Rattle.std.proofs.Common.{◌≡◌, ◌⊎◌, inl, inr, ℕ, ◌<◌, ◌≤◌, Bool, true, false, refl, arith, IsTrue, IsFalse}
use Rattle.std.specs.Prelude.{Result, Ok, Err, IfErr, IsOk}
use Rattle.vx_rows.specs.declared.error.ColumnError.{ColumnError}
use Rattle.vx_search.specs.Answers.{MemoryCause}
use Rattle.vx_probe.specs.Causes.{PointCause}

never : (T : Type 0) (e : ColumnError) → IsOk {T = T} {E = ColumnError} (Err e) → ⊥
never T e h = cc

-- no more than running out of memory, and that only where memory is taken
pub memory_alone : {T : Type 0} (r : Result T ColumnError) (takes : Bool) (len index : ℕ) → index < len → IfErr r (PointCause len index)
    → (IsFalse takes → index < len → IsOk r) → IfErr r (MemoryCause takes)
memory_alone (Ok x) takes len index short cause free = tt
memory_alone (Err e) true len index short (inl memory) free = (memory, refl)
memory_alone {T = T} (Err e) false len index short (inl memory) free = absurd (never T e (free refl short))
memory_alone (Err e) takes len index short (inr beyond) free = let h = beyond.1 in absurd (omega arith)
