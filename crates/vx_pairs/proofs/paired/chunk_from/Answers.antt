use Rattle.std.proofs.Common.{arith, ap, ◌+◌, length}
use Rattle.vx_chunks.proofs.Sums.{length-running, total-take_more}
use Rattle.vx_pairs.proofs.Ranges.{walk_within, end_at}
use Rattle.vx_pairs.proofs.paired.chunk_from.Goals as goal

pub overflow_add-chunk : goal.overflow_add-chunk
overflow_add-chunk c =
    let lens = c.args.boundaries.now in
    omega (arith, walk_within lens c.loop-chunk.chunk c.args.row c.loop-chunk.invariant c.requires.inside, length-running 0 lens, ap length c.values-ends.ensures, c.values-ends.type_inv)

pub offset_bounds-ends-chunk : goal.offset_bounds-ends-chunk
offset_bounds-ends-chunk c =
    let lens = c.args.boundaries.now in
    omega (arith, walk_within lens c.loop-chunk.chunk c.args.row c.loop-chunk.invariant c.requires.inside, length-running 0 lens, ap length c.values-ends.ensures, c.values-ends.type_inv)

pub bounds-ends-chunk : goal.bounds-ends-chunk
bounds-ends-chunk c =
    let lens = c.args.boundaries.now in
    omega (arith, walk_within lens c.loop-chunk.chunk c.args.row c.loop-chunk.invariant c.requires.inside, length-running 0 lens, ap length c.values-ends.ensures)

pub overflow_add-chunk-in-loop-chunk : goal.overflow_add-chunk-in-loop-chunk
overflow_add-chunk-in-loop-chunk c =
    let lens = c.args.boundaries.now in
    omega (arith, walk_within lens c.loop-chunk.chunk c.args.row c.loop-chunk.invariant c.requires.inside, length-running 0 lens, ap length c.values-ends.ensures, c.values-ends.type_inv)

pub loop-chunk-preserved : goal.loop-chunk-preserved
loop-chunk-preserved c =
    let lens = c.args.boundaries.now in
    let k = c.loop-chunk.chunk in
    let within = walk_within lens k c.args.row c.loop-chunk.invariant c.requires.inside in
    omega (arith, end_at c.values-ends.result.now lens (k + 1) c.values-ends.ensures (omega (arith, within)), c.loop-chunk-test.true)

pub returns-clause-there : goal.returns-clause-there
returns-clause-there c = walk_within c.args.boundaries.now c.loop-chunk.chunk c.args.row c.loop-chunk.invariant c.requires.inside

pub returns-clause-end : goal.returns-clause-end
returns-clause-end c =
    let lens = c.args.boundaries.now in
    let k = c.loop-chunk.chunk in
    let within = walk_within lens k c.args.row c.loop-chunk.invariant c.requires.inside in
    omega (arith, end_at c.values-ends.result.now lens (k + 1) c.values-ends.ensures (omega (arith, within)), total-take_more lens k 0 within, c.loop-chunk-test.false)
