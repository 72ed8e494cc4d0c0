-- The slots of columns by their encodings, and what a list of slots that are all there has at a place.
use Rattle.std.proofs.Common.{◌≡◌, ℕ, zero, suc, ◌≤◌, List, [], ◌∷◌, map, length, slice_get, Option, Some, None, Bor, sym, ◌∙◌, ap, arith, IsTrue, IfOk, OnOk, IfErr}
use Rattle.std.specs.Option.{is_some, option_copied}
use Rattle.std.specs.declared.result.Result.{Result}
use Rattle.std.specs.declared.result.Result.TheVariants.{Ok, Err}
use Rattle.vx_rows.specs.declared.error.ColumnError.{ColumnError}
use Rattle.vx_rows.specs.declared.error.ColumnError.TheVariants.{SlotOutOfRange}
use Rattle.vx_column.specs.declared.chunked.Chunked.{Chunked}
use Rattle.vx_column.specs.declared.interleave.Interleave.{Interleave}
use Rattle.vx_column.specs.declared.column.Column.{Column}
use Rattle.vx_column.specs.declared.column.Column.TheVariants.{outs-Chunked, outs-Interleave}
use Rattle.vx_column.specs.declared.column.Column.TheVariants as column
use Rattle.vx_probe.specs.Causes.{SlotCause}
use Rattle.vx_probe.specs.Slots.{slots_of, layer_slots, chunk_slots, interleave_slots}

pub slots_chunked : (c : Chunked Column) → slots_of (column.Chunked c) ≡ map Some (chunk_slots c)
slots_chunked c = ap layer_slots (outs-Chunked c)

pub slots_interleave : (i : Interleave Column) → slots_of (column.Interleave i) ≡ map Some (interleave_slots i)
slots_interleave i = ap layer_slots (outs-Interleave i)

there : (xs : List Column) (slot : ℕ) (child : Column) → Some child ≡ slice_get xs slot → slice_get (map Some xs) slot ≡ Some (Some child)
there [] slot child e = absurd cc
there (x ∷ xs) zero child e = ap (λ c. Some c) (sym e)
there (x ∷ xs) (suc slot) child e = there xs slot child e

past : (xs : List Column) (slot : ℕ) → None ≡ slice_get xs slot → length (map Some xs) ≤ slot
past [] slot e = omega arith
past (x ∷ xs) zero e = absurd cc
past (x ∷ xs) (suc slot) e = let more = past xs slot e in omega (arith, more)

at_place : (xs : List Column) (slot : ℕ) (child : Option (Bor Column)) → option_copied child ≡ slice_get xs slot → IsTrue (is_some child) → slice_get (map Some xs) slot ≡ Some (option_copied child)
at_place xs slot None e some = absurd cc
at_place xs slot (Some child) e some = there xs slot child.now e

-- a child that was found is the one in the slot
pub found_there : (x : Column) (xs : List Column) (slot : ℕ) (child : Option (Bor Column)) (r : Result (Option (Bor Column)) ColumnError) → slots_of x ≡ map Some xs → option_copied child ≡ slice_get xs slot →
    IfOk r (λ found. found ≡ child) → OnOk r (IsTrue (is_some child)) → IfOk r (λ found. slice_get (slots_of x) slot ≡ Some (option_copied found))
found_there x xs slot child (Err e) is at same some = tt
found_there x xs slot child (Ok found) is at same some =
    rw (same, is) (at_place xs slot child at some)

-- a refusal tells that there is no such slot
pub found_none : (x : Column) (xs : List Column) (slot : ℕ) (child : Option (Bor Column)) (r : Result (Option (Bor Column)) ColumnError) → slots_of x ≡ map Some xs → option_copied child ≡ slice_get xs slot →
    IfErr r (λ e. (e ≡ SlotOutOfRange slot) × (child ≡ None)) → IfErr r (SlotCause (length (slots_of x)) slot)
found_none x xs slot child (Ok found) is at refused = tt
found_none x xs slot child (Err e) is at refused =
    (refused.0, rw is (past xs slot (sym (ap option_copied refused.1) ∙ at)))
