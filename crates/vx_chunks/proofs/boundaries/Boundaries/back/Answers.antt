use Rattle.std.proofs.Common.{arith, ◌<◌, length}
use Rattle.vx_chunks.proofs.Sums.{total-last, some_chunk}
use Rattle.vx_chunks.proofs.boundaries.Boundaries.back.Goals as goal

pub returns-then-end-len-clause-row : goal.returns-then-end-len-clause-row
returns-then-end-len-clause-row g c =
    let some : 0 < length c.args.self.now = some_chunk c.args.self.now (omega arith) in
    omega (arith, total-last c.args.self.now c.nchunks-last.result c.nchunks-last.ensures (omega arith))
