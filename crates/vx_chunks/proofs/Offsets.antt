-- Boundaries as rows.
use Rattle.std.proofs.Common.{arith, ap, refl, sym, ◌∙◌, ◌≡◌, inl, inr, ◌<◌, ◌+◌, ◌^◌, ◌++◌, ◌∷◌, [], ℕ, ℤ, List, map, take, get_or, length, Bool, true, ◌&&◌, Option, Some, pos, to_z}
use Rattle.std.proofs.lemmas.Bool.{and_from, false≢true}
use Rattle.std.proofs.lemmas.Bool.Decides.{nat_tests}
use Rattle.std.proofs.lemmas.Int.{to_z_pos}
use Rattle.std.proofs.lemmas.List.{take_more, map-append}
use Rattle.std.proofs.lemmas.List.Folds.{list_all-append}
use Rattle.std.specs.Int.{w128}
use Rattle.vx_rows.specs.declared.dtype.DType.{DType, out-DType, out-roll-DType}
use Rattle.vx_rows.specs.declared.dtype.DType.TheOpen.{DType-F}
use Rattle.vx_rows.specs.declared.dtype.DType.TheVariants.{Primitive, rolls-Primitive}
use Rattle.vx_rows.specs.declared.kinds.Nullability.{Nullability}
use Rattle.vx_rows.specs.declared.kinds.Nullability.TheVariants.{NonNullable}
use Rattle.vx_rows.specs.declared.kinds.PType.{PType}
use Rattle.vx_rows.specs.declared.value.Value.{Value, fold-roll-Value}
use Rattle.vx_rows.specs.declared.value.Value.TheOpen.{Value-F}
use Rattle.vx_rows.specs.declared.value.Value.TheVariants.{Int, rolls-Int}
use Rattle.vx_rows.specs.declared.error.ColumnError.{ColumnError}
use Rattle.vx_rows.specs.declared.error.ColumnError.TheVariants.{OutOfMemory}
use Rattle.vx_rows.specs.declared.kinds.PType.TheVariants.{U64}
use Rattle.vx_rows.specs.Fits.{row_fits, rows_fit, is_in_range, value_fits, fits_step, layer_fits}
use Rattle.vx_base.specs.Column.{RefusesMisfit}
use Rattle.vx_chunks.specs.Offsets.{offset_type, offset_row}

pub offsets_more : (ns : List ℕ) (k : ℕ) (rows : List (Option Value)) → k < length ns → rows ≡ map offset_row (take k ns) →
    rows ++ offset_row (get_or ns k 0) ∷ [] ≡ map offset_row (take (k + 1) ns)
offsets_more ns k rows h e =
    ap (λ rs. rs ++ offset_row (get_or ns k 0) ∷ []) e ∙ sym (map-append offset_row (take k ns) (get_or ns k 0 ∷ [])) ∙ ap (map offset_row) (sym (take_more ns k 0 h))

-- a number of 64 bits as a row, by way of a signed one of 128
pub row_of_number : (n : ℕ) → n < 2 ^ 64 → Some (Int (to_z w128 n)) ≡ offset_row n
row_of_number n h = ap (λ z. Some (Int z)) (to_z_pos w128 n (omega arith))

in_range : (n : ℕ) → n < 2 ^ 64 → is_in_range U64 (pos n) ≡ true
in_range n h = grind (arith, nat_tests)

-- an integer fits an integer type where it is in its range
fits_int : (z : ℤ) (p : PType) (n : Nullability) → value_fits (Int z) (Primitive p n) ≡ is_in_range p z
fits_int z p n =
    ap (λ v. value_fits v (Primitive p n)) (sym (rolls-Int z)) ∙ ap (λ f. f (Primitive p n)) (fold-roll-Value (DType → Bool) fits_step (Value-F.Int z))
    ∙ ap (layer_fits (λ (f : DType → Bool) s. f s) (Value-F.Int z)) (ap out-DType (sym (rolls-Primitive p n)) ∙ out-roll-DType (DType-F.Primitive p n))

fits_one : (n : ℕ) → n < 2 ^ 64 → row_fits offset_type (offset_row n) ≡ true
fits_one n h = fits_int (pos n) U64 NonNullable ∙ in_range n h

pub fit_more : (rows : List (Option Value)) (n : ℕ) → rows_fit offset_type rows ≡ true → n < 2 ^ 64 → rows_fit offset_type (rows ++ offset_row n ∷ []) ≡ true
fit_more rows n f h =
    list_all-append (row_fits offset_type) rows (offset_row n ∷ []) ∙ and_from (rows_fit offset_type rows) (row_fits offset_type (offset_row n) && true) f (and_from (row_fits offset_type (offset_row n)) true (fits_one n h) refl)

-- rows that fit are refused only where memory runs out
pub only_memory : (fits : Bool) (e : ColumnError) → fits ≡ true → RefusesMisfit fits e → e ≡ OutOfMemory
only_memory fits e h (inl memory) = memory
only_memory fits e h (inr misfit) = absurd (false≢true (sym misfit.1 ∙ h))
