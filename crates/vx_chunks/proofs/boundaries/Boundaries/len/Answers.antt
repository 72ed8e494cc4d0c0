use Rattle.std.proofs.Common.{ap, ◌∙◌, take}
use Rattle.vx_chunks.specs.Bounds.{total}
use Rattle.vx_chunks.proofs.Sums.{total-take_all}
use Rattle.vx_chunks.proofs.boundaries.Boundaries.len.Goals as goal

pub returns : goal.returns
returns c = c.at.ensures ∙ ap (λ k. total (take k c.args.self.now)) c.nchunks.ensures ∙ total-take_all c.args.self.now
