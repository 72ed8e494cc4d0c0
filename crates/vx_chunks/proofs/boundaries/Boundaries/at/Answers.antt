use Rattle.std.proofs.Common.{arith, ap, ℕ, List, get_or, length}
use Rattle.vx_chunks.proofs.Sums.{length-running, get_or-running}
use Rattle.vx_chunks.proofs.boundaries.Boundaries.at.Goals as goal

pub offset_bounds-values-chunk : goal.offset_bounds-values-chunk
offset_bounds-values-chunk c = omega (arith, c.values.type_inv, length-running 0 c.args.self.now, ap length c.values.ensures)

pub bounds-values-chunk : goal.bounds-values-chunk
bounds-values-chunk c = omega (arith, length-running 0 c.args.self.now, ap length c.values.ensures)

pub returns : goal.returns
returns c = omega (arith, ap (λ (ks : List ℕ). get_or ks c.args.chunk 0) c.values.ensures, get_or-running 0 c.args.self.now c.args.chunk 0 c.requires)
