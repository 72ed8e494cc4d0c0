use Rattle.std.proofs.Common.{arith, slice_index}
use Rattle.vx_select.proofs.Ranges.{run_more}
use Rattle.vx_select.proofs.gathering.side_by_side.Goals as goal

pub loop-count-preserved : goal.loop-count-preserved
loop-count-preserved c =
    let places = c.args.places.now in
    let count = c.loop-count.count in
    let before = c.loop-count.invariant in
    record {
      some = omega arith;
      within = omega (arith, c.loop-count-test.true);
      run = run_more places (slice_index places 0) count before.some c.loop-count-test.true before.run (c.follows.ensures.0 c.if-follows.true);
    }
