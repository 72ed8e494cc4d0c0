-- What a scalar is: a type, and a row that fits it.
use Rattle.std.specs.Prelude.{Option, IsTrue, refl}
use Rattle.std.specs.Coded.{Coded, code_by, coded×, coded_option}
use Rattle.vx_rows.specs.declared.dtype.DType.{DType}
use Rattle.vx_rows.specs.declared.value.Value.{Value}
use Rattle.vx_rows.specs.contracts.dtype.DType as dtype_row
use Rattle.vx_rows.specs.contracts.value.Value as value_row
use Rattle.vx_rows.specs.Fits.{row_fits}

pub record ScalarView : Type 0 where
  pub dtype : DType
  pub row : Option Value

abbrev pub scalar : DType → Option Value → ScalarView
scalar t r = record { dtype = t; row = r }

abbrev pub scalar_code : Coded ScalarView
scalar_code =
    code_by (DType × Option Value) (coded× dtype_row.the_row.coded (coded_option value_row.the_row.coded))
    (λ s. (s.dtype, s.row)) (λ p. record { dtype = p.0; row = p.1 }) (λ _. refl)

-- the row fits the type
abbrev pub IsScalar : ScalarView → Type 0
IsScalar s = IsTrue (row_fits s.dtype s.row)
