use Rattle.vx_search.proofs.Powers.{log_fits, log_below, twice_rounds}
use Rattle.vx_search.proofs.laws.cost_laws.Goals as goal

pub returns-clause-reached : goal.returns-clause-reached
returns-clause-reached c = log_fits

pub returns-clause-least : goal.returns-clause-least
returns-clause-least c = log_below

pub returns-clause-bound : goal.returns-clause-bound
returns-clause-bound c = twice_rounds
