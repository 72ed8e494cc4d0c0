-- Laws: exceptions that are laid over rows, and selections of both.
use Rattle.std.specs.Prelude.{ℕ, ◌≡◌, Bool, List, All, length, Option, Some, None}
use Rattle.std.specs.List.{slice_range}
use Rattle.vx_rows.specs.declared.value.Value.{Value}
use Rattle.vx_bulk.specs.Selections.{kept, picked, overlaid, IsWithin}
use Rattle.vx_patches.specs.Pairs.{Overlay, IsOverlay, pairs_of, pairs_inside}
use Rattle.vx_patch_select.specs.Selected.{kept_pairs, taken_pairs}
use Rattle.vx_patch_select.specs.Patched.{pairs_left}

-- rows with exceptions laid over them: where there are none, the rows alone
abbrev pub laid : List (Option Value) → Option Overlay → List (Option Value)
laid rows None = rows
laid rows (Some o) = overlaid rows (pairs_of o)

-- the exceptions of a slice lie over the sliced rows as the slice of the whole
abbrev pub SliceCommutes : Type 0
SliceCommutes = (rows : List (Option Value)) (o : Overlay) (start end : ℕ) (left : Option Overlay) → pairs_left left ≡ pairs_inside start end (pairs_of o) →
    laid (slice_range rows start end) left ≡ slice_range (laid rows (Some o)) start end

-- those of a filter over the rows that are kept
abbrev pub FilterCommutes : Type 0
FilterCommutes = (rows : List (Option Value)) (o : Overlay) (bits : List Bool) (left : Option Overlay) → pairs_left left ≡ kept_pairs bits (pairs_of o) →
    laid (kept rows bits) left ≡ kept (laid rows (Some o)) bits

-- those of a take over the rows that are picked, with nulls and without
abbrev pub TakeCommutes : Type 0
TakeCommutes = (rows : List (Option Value)) (o : Overlay) (nulls : Bool) (indices : List (Option ℕ)) (left : Option Overlay) → IsOverlay o → All (IsWithin (length rows)) indices →
    pairs_left left ≡ taken_pairs nulls (pairs_of o) indices → laid (picked rows indices) left ≡ picked (laid rows (Some o)) indices
