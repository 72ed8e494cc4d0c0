use Rattle.vx_scalars.proofs.Total.{row_cmp_total}
use Rattle.vx_scalars.proofs.Exact.{row_cmp_exact}
use Rattle.vx_scalars.proofs.order.order_laws.Goals as goal

pub returns-clause-total : goal.returns-clause-total
returns-clause-total c = row_cmp_total

pub returns-clause-exact : goal.returns-clause-exact
returns-clause-exact c = row_cmp_exact
