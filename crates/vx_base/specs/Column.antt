-- What a column of flat rows is: a type, and rows.
use Rattle.std.specs.Prelude.{Bool, ◌≡◌, ◌⊎◌, List, [], Option, Result, Err, IsTrue, IsFalse, refl}
use Rattle.std.specs.Coded.{Coded, code_by, coded×, coded_list, coded_option}
use Rattle.vx_rows.specs.declared.dtype.DType.{DType}
use Rattle.vx_rows.specs.declared.value.Value.{Value}
use Rattle.vx_rows.specs.contracts.dtype.DType as dtype_row
use Rattle.vx_rows.specs.contracts.value.Value as value_row
use Rattle.vx_rows.specs.declared.error.ColumnError.{ColumnError}
use Rattle.vx_rows.specs.declared.error.ColumnError.TheVariants.{OutOfMemory, Malformed}
use Rattle.vx_rows.specs.declared.error.Rule.TheVariants.{RowType}
use Rattle.vx_rows.specs.Fits.{rows_fit}

pub record Flat : Type 0 where
  pub dtype : DType
  pub rows : List (Option Value)

abbrev pub flat : DType → List (Option Value) → Flat
flat t rs = record { dtype = t; rows = rs }

abbrev pub flat_code : Coded Flat
flat_code =
    code_by (DType × List (Option Value)) (coded× dtype_row.the_row.coded (coded_list (coded_option value_row.the_row.coded)))
    (λ c. (c.dtype, c.rows)) (λ p. record { dtype = p.0; rows = p.1 }) (λ _. refl)

-- each row fits the type
abbrev pub IsFlat : Flat → Type 0
IsFlat c = IsTrue (rows_fit c.dtype c.rows)

-- why a maker refuses, by whether the rows fit
abbrev pub RefusesMisfit : Bool → ColumnError → Type 0
RefusesMisfit fits e = (e ≡ OutOfMemory) ⊎ ((e ≡ Malformed [] RowType) × IsFalse fits)

-- the refusal of rows that don't fit
abbrev pub misfit : {A : Type 0} → Result A ColumnError
misfit = Err (Malformed [] RowType)
