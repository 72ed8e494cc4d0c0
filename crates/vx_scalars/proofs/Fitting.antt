-- Rows that are chosen, filled and compared fit their types; and where rows misfit.
use Rattle.std.proofs.Common.{ℕ, ℤ, zero, suc, ◌≡◌, ◌+◌, ◌∙◌, ap, sym, refl, subst, arith, Bool, true, false, cond, ◌&&◌, List, [], ◌∷◌, ◌++◌, length, Option, Some, None}
use Rattle.std.specs.Option.{is_some}
use Rattle.std.specs.List.{list_all}
use Rattle.std.proofs.lemmas.Bool.{false≢true, and_parts}
use Rattle.vx_rows.specs.Types.{nullability, layer_nullability, AlikeTypes}
use Rattle.vx_rows.specs.Fits.{is_nullable, is_in_range, layer_fits, fits_step, value_fits, row_fits, rows_fit}
use Rattle.vx_rows.specs.declared.kinds.PType.{PType}
use Rattle.vx_rows.specs.declared.kinds.Nullability.{Nullability}
use Rattle.vx_rows.specs.declared.kinds.Nullability.TheVariants.{NonNullable}
use Rattle.vx_rows.specs.declared.dtype.DType.{DType, Bool as BoolType, Primitive as NumberType, out-DType, out-roll-DType}
use Rattle.vx_rows.specs.declared.dtype.DType.TheOpen.{DType-F}
use Rattle.vx_rows.specs.declared.dtype.DType.TheVariants as Types
use Rattle.vx_rows.specs.declared.value.Value.{Value, Bool as Truth, Int as Number, fold-roll-Value}
use Rattle.vx_rows.specs.declared.value.Value.TheVariants.{rolls-Bool, rolls-Int}
use Rattle.vx_rows.specs.declared.value.Value.TheOpen.{Value-F}
use Rattle.vx_rows.specs.Order.{value_cmp}
use Rattle.vx_scalars.specs.declared.operator.CompareOperator.{CompareOperator}
use Rattle.vx_scalars.specs.Operators.{op_holds}
use Rattle.vx_scalars.specs.Elementwise.{chosen, filled_row, filled, compared_row, compared, either, chosen_type, filled_type, compared_type, IsMisfitAt}
use Rattle.vx_scalars.proofs.Types.{value_fits_with, value_fits_alike, fits_left, fits_right, nullable_left, nullable_right}

first : (p : Option Value → Bool) (r : Option Value) (rs : List (Option Value)) → list_all p (r ∷ rs) ≡ true → p r ≡ true
first p r rs h = (and_parts (p r) (list_all p rs) h).0

others : (p : Option Value → Bool) (r : Option Value) (rs : List (Option Value)) → list_all p (r ∷ rs) ≡ true → list_all p rs ≡ true
others p r rs h = (and_parts (p r) (list_all p rs) h).1

fits_one : (t s : DType) (x y : Option Value) (bit : Bool) → AlikeTypes t s → row_fits t x ≡ true → row_fits s y ≡ true → row_fits (chosen_type t s) (cond bit x y) ≡ true
fits_one t s x y true e h k = fits_left t s x h
fits_one t s x y false e h k = fits_right t s y e k

pub fits_chosen : (t s : DType) (xs ys : List (Option Value)) (bits : List Bool) → AlikeTypes t s → rows_fit t xs ≡ true → rows_fit s ys ≡ true → rows_fit (chosen_type t s) (chosen xs ys bits) ≡ true
fits_chosen t s [] ys bits e h k = refl
fits_chosen t s (x ∷ xs) [] bits e h k = refl
fits_chosen t s (x ∷ xs) (y ∷ ys) [] e h k = refl
fits_chosen t s (x ∷ xs) (y ∷ ys) (bit ∷ bits) e h k =
    λ i. fits_one t s x y bit e (first (row_fits t) x xs h) (first (row_fits s) y ys k) i && fits_chosen t s xs ys bits e (others (row_fits t) x xs h) (others (row_fits s) y ys k) i

-- a row where the value isn't null
pub fits_filled_row : (t s : DType) (value r : Option Value) → AlikeTypes t s → row_fits s value ≡ true → is_some value ≡ true → row_fits t r ≡ true → row_fits (filled_type t) (filled_row value r) ≡ true
fits_filled_row t s None r e k some h = absurd (false≢true some)
fits_filled_row t s (Some v) None e k some h = value_fits_with v t NonNullable ∙ value_fits_alike v t s e ∙ k
fits_filled_row t s (Some v) (Some x) e k some h = value_fits_with x t NonNullable ∙ h

pub fits_filled : (t s : DType) (value : Option Value) (rows : List (Option Value)) → AlikeTypes t s → row_fits s value ≡ true → is_some value ≡ true → rows_fit t rows ≡ true → rows_fit (filled_type t) (filled value rows) ≡ true
fits_filled t s value [] e k some h = refl
fits_filled t s value (r ∷ rows) e k some h =
    λ i. fits_filled_row t s value r e k some (first (row_fits t) r rows h) i && fits_filled t s value rows e k some (others (row_fits t) r rows h) i

-- of a type without nulls nothing is filled
filled_row_plain : (t : DType) (value r : Option Value) → is_nullable (nullability t) ≡ false → row_fits t r ≡ true → filled_row value r ≡ r
filled_row_plain t value None plain h = absurd (false≢true (sym plain ∙ h))
filled_row_plain t value (Some v) plain h = refl

pub filled_plain : (t : DType) (value : Option Value) (rows : List (Option Value)) → is_nullable (nullability t) ≡ false → rows_fit t rows ≡ true → filled value rows ≡ rows
filled_plain t value [] plain h = refl
filled_plain t value (r ∷ rows) plain h =
    λ i. filled_row_plain t value r plain (first (row_fits t) r rows h) i ∷ filled_plain t value rows plain (others (row_fits t) r rows h) i

abbrev applied : (DType → Bool) → DType → Bool
applied f t = f t

open_bool : (n : Nullability) → out-DType (BoolType n) ≡ DType-F.Bool n
open_bool n = ap out-DType (sym (Types.rolls-Bool n)) ∙ out-roll-DType (DType-F.Bool n)

-- a boolean fits a type of booleans, and a null a nullable one
pub fits_truth : (b : Bool) (n : Nullability) → value_fits (Truth b) (BoolType n) ≡ true
fits_truth b n =
    ap (λ v. value_fits v (BoolType n)) (sym (rolls-Bool b)) ∙ ap (λ f. f (BoolType n)) (fold-roll-Value (DType → Bool) fits_step (Value-F.Bool b))
    ∙ ap (layer_fits applied (Value-F.Bool b)) (open_bool n)

pub null_fits_bool : (n : Nullability) → is_nullable n ≡ true → row_fits (BoolType n) None ≡ true
null_fits_bool n h = ap (λ y. is_nullable (layer_nullability y)) (open_bool n) ∙ h

open_number : (p : PType) (n : Nullability) → out-DType (NumberType p n) ≡ DType-F.Primitive p n
open_number p n = ap out-DType (sym (Types.rolls-Primitive p n)) ∙ out-roll-DType (DType-F.Primitive p n)

-- a number fits a type of integers where it is in its range
pub fits_number : (z : ℤ) (p : PType) (n : Nullability) → value_fits (Number z) (NumberType p n) ≡ is_in_range p z
fits_number z p n =
    ap (λ v. value_fits v (NumberType p n)) (sym (rolls-Int z)) ∙ ap (λ f. f (NumberType p n)) (fold-roll-Value (DType → Bool) fits_step (Value-F.Int z))
    ∙ ap (layer_fits applied (Value-F.Int z)) (open_number p n)

pub null_fits_number : (p : PType) (n : Nullability) → is_nullable n ≡ true → row_fits (NumberType p n) None ≡ true
null_fits_number p n h = ap (λ y. is_nullable (layer_nullability y)) (open_number p n) ∙ h

pub fits_compared_row : (op : CompareOperator) (t s : DType) (value r : Option Value) → row_fits s value ≡ true → row_fits t r ≡ true → row_fits (compared_type t s) (compared_row op value r) ≡ true
fits_compared_row op t s None r k h = null_fits_bool (either (nullability t) (nullability s)) (nullable_right (nullability t) (nullability s) k)
fits_compared_row op t s (Some v) None k h = null_fits_bool (either (nullability t) (nullability s)) (nullable_left (nullability t) (nullability s) h)
fits_compared_row op t s (Some v) (Some x) k h = fits_truth (op_holds op (value_cmp x v)) (either (nullability t) (nullability s))

pub fits_compared : (op : CompareOperator) (t s : DType) (value : Option Value) (rows : List (Option Value)) → row_fits s value ≡ true → rows_fit t rows ≡ true → rows_fit (compared_type t s) (compared op value rows) ≡ true
fits_compared op t s value [] k h = refl
fits_compared op t s value (r ∷ rows) k h =
    λ i. fits_compared_row op t s value r k (first (row_fits t) r rows h) i && fits_compared op t s value rows k (others (row_fits t) r rows h) i

-- a row that misfits is one of longer lists too, and then not all rows fit
pub misfit_front : (t : DType) (xs ys : List (Option Value)) (i : ℕ) → IsMisfitAt t xs i → IsMisfitAt t (xs ++ ys) i
misfit_front t [] ys i h = absurd (let k = h.0 in omega arith)
misfit_front t (x ∷ xs) ys zero h = (omega arith, h.1)
misfit_front t (x ∷ xs) ys (suc i) h =
    let k = h.0 in
    let rest : IsMisfitAt t (xs ++ ys) i = misfit_front t xs ys i (omega arith, h.1) in
    let l = rest.0 in
    (omega arith, rest.1)

pub misfit_behind : (t : DType) (xs ys : List (Option Value)) (i : ℕ) → IsMisfitAt t ys i → IsMisfitAt t (xs ++ ys) (length xs + i)
misfit_behind t [] ys i h = let e : i ≡ 0 + i = omega arith in subst (IsMisfitAt t ys) e h
misfit_behind t (x ∷ xs) ys i h =
    let rest : IsMisfitAt t (xs ++ ys) (length xs + i) = misfit_behind t xs ys i h in
    let l = rest.0 in
    let there : IsMisfitAt t (x ∷ (xs ++ ys)) (suc (length xs + i)) = (omega arith, rest.1) in
    let e : suc (length xs + i) ≡ suc (length xs) + i = omega arith in
    subst (IsMisfitAt t (x ∷ (xs ++ ys))) e there

and_false : (a b : Bool) → b ≡ false → (a && b) ≡ false
and_false true b e = e
and_false false b e = refl

pub misfit_fails : (t : DType) (rows : List (Option Value)) (i : ℕ) → IsMisfitAt t rows i → rows_fit t rows ≡ false
misfit_fails t [] i h = absurd (let k = h.0 in omega arith)
misfit_fails t (r ∷ rows) zero h = ap (λ b. b && rows_fit t rows) h.1
misfit_fails t (r ∷ rows) (suc i) h = let k = h.0 in and_false (row_fits t r) (rows_fit t rows) (misfit_fails t rows i (omega arith, h.1))
