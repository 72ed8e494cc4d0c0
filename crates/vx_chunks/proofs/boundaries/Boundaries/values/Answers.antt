use Rattle.std.proofs.Common.{ap, ◌∙◌}
use Rattle.vx_chunks.specs.Bounds.{running}
use Rattle.vx_chunks.proofs.boundaries.Boundaries.values.Goals as goal

pub returns : goal.returns
returns c = c.as_slice.ensures.value ∙ ap (λ v. v.items) c.get.ensures ∙ c.self.invariant.0 ∙ ap (running 0) c.self.view_is
