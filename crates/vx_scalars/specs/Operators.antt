-- What an operator says of two rows, by how the first stands to the second.
use Rattle.std.specs.Prelude.{Bool}
use Rattle.std.specs.declared.cmp.Ordering.{Ordering}
use Rattle.std.specs.Ordering.{is_eq, is_ne, is_lt, is_le, is_gt, is_ge}
use Rattle.vx_scalars.specs.declared.operator.CompareOperator.{CompareOperator}
use Rattle.vx_scalars.specs.declared.operator.CompareOperator.TheVariants.{Eq, NotEq, Gt, Gte, Lt, Lte}

abbrev pub op_holds : CompareOperator → Ordering → Bool
op_holds Eq order = is_eq order
op_holds NotEq order = is_ne order
op_holds Gt order = is_gt order
op_holds Gte order = is_ge order
op_holds Lt order = is_lt order
op_holds Lte order = is_le order
