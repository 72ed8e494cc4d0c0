use Rattle.std.proofs.Common.{ap, ◌∙◌, length}
use Rattle.vx_search.specs.Places.{search_bound}
use Rattle.vx_chunks.proofs.Sums.{length-running}
use Rattle.vx_chunks.proofs.boundaries.Boundaries.search_cost.Goals as goal

pub returns : goal.returns
returns c = c.search_bound.ensures ∙ ap search_bound (ap length c.values.ensures ∙ length-running 0 c.args.self.now)
