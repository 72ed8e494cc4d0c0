-- What a searcher answers, and why it refuses.
use Rattle.std.specs.Prelude.{◌≡◌, Bool, List, map, IsTrue}
use Rattle.std.specs.declared.cmp.Ordering.{Ordering}
use Rattle.vx_rows.specs.declared.error.ColumnError.{ColumnError}
use Rattle.vx_rows.specs.declared.error.ColumnError.TheVariants.{OutOfMemory}

-- the only cause is running out of memory, and that only where memory is taken
abbrev pub MemoryCause : Bool → ColumnError → Type 0
MemoryCause takes e = (e ≡ OutOfMemory) × IsTrue takes

-- how each element stands to a value
abbrev pub standing : {E V : Type 0} → (E → V → Ordering) → List E → V → List Ordering
standing R xs v = map (λ x. R x v) xs
