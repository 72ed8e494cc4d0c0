-- What a plan gives: its answers, and its last column.
use Rattle.std.specs.Prelude.{◌≡◌, ◌≤◌, List, refl}
use Rattle.std.specs.Coded.{Coded, code_by, coded×, coded_list}
use Rattle.vx_rows.specs.Types.{is_nested}
use Rattle.vx_column.specs.Columns.{type_of, point_cost, cut_cost, lane_cost, IsPlain}
use Rattle.vx_column.specs.declared.column.Column.{Column}
use Rattle.vx_column.specs.contracts.column.Column as column_row
use Rattle.vx_job.specs.declared.page.Answer.{Answer}
use Rattle.vx_job.specs.contracts.page.Answer as answer_row

pub record AnswersView : Type 0 where
  pub answers : List Answer
  pub column : Column

abbrev pub answers_view : List Answer → Column → AnswersView
answers_view answers column = record { answers = answers; column = column }

abbrev pub answers_code : Coded AnswersView
answers_code =
    code_by (List Answer × Column) (coded× (coded_list answer_row.the_row.coded) column_row.the_row.coded)
    (λ a. (a.answers, a.column)) (λ p. record { answers = p.0; column = p.1 }) (λ _. refl)

-- a later column is as nested as an earlier one, and none of the costs rose
pub record CostsNoMore (before after : Column) : Type 0 where
  pub nested : is_nested (type_of after) ≡ is_nested (type_of before)
  pub point : point_cost after ≤ point_cost before
  pub cut : cut_cost after ≤ cut_cost before
  pub lanes : lane_cost after ≤ lane_cost before
  pub plain : IsPlain before → IsPlain after
