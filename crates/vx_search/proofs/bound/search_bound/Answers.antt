use Rattle.std.proofs.Common.{arith, ap}
use Rattle.vx_search.specs.Places.{search_bound}
use Rattle.vx_search.proofs.Powers.{log_least, bound_some, bound_none}
use Rattle.vx_search.proofs.bound.search_bound.Goals as goal

pub returns-then-len-eq0 : goal.returns-then-len-eq0
returns-then-len-eq0 c = omega (arith, bound_none, ap search_bound c.if-len-eq0.true)

pub overflow_mul-result : goal.overflow_mul-result
overflow_mul-result c = omega (arith, c.halvings.ensures, log_least c.args.len 64 (omega (arith, c.ranges.len)))

pub overflow_add-result : goal.overflow_add-result
overflow_add-result c = omega (arith, c.halvings.ensures, log_least c.args.len 64 (omega (arith, c.ranges.len)))

pub returns : goal.returns
returns c = omega (arith, c.halvings.ensures, bound_some c.args.len (omega (arith, c.if-len-eq0.false)))
