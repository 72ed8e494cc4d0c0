-- What a page shows: answers, a type and rows.
use Rattle.std.specs.Prelude.{List, Option, refl}
use Rattle.std.specs.Coded.{Coded, code_by, coded×, coded_list, coded_option}
use Rattle.vx_rows.specs.declared.dtype.DType.{DType}
use Rattle.vx_rows.specs.declared.value.Value.{Value}
use Rattle.vx_rows.specs.contracts.dtype.DType as dtype_row
use Rattle.vx_rows.specs.contracts.value.Value as value_row
use Rattle.vx_job.specs.declared.page.Answer.{Answer}
use Rattle.vx_job.specs.contracts.page.Answer as answer_row

pub record PageView : Type 0 where
  pub answers : List Answer
  pub dtype : DType
  pub rows : List (Option Value)

abbrev pub page_view : List Answer → DType → List (Option Value) → PageView
page_view answers dtype rows = record { answers = answers; dtype = dtype; rows = rows }

abbrev pub page_code : Coded PageView
page_code =
    code_by (List Answer × (DType × List (Option Value)))
    (coded× (coded_list answer_row.the_row.coded) (coded× dtype_row.the_row.coded (coded_list (coded_option value_row.the_row.coded))))
    (λ p. (p.answers, (p.dtype, p.rows))) (λ p. record { answers = p.0; dtype = p.1.0; rows = p.1.1 }) (λ _. refl)
