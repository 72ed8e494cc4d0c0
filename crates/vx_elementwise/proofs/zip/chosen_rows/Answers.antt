use Rattle.std.proofs.Common.{arith}
use Rattle.vx_elementwise.proofs.Ranges.{chosen_run_more}
use Rattle.vx_elementwise.proofs.zip.chosen_rows.Goals as goal

pub loop-start-preserved : goal.loop-start-preserved
loop-start-preserved g c =
    let i = c.loop-start.start in
    let e = c.run_end-end.result in
    record {
      inside = c.run_end-end.ensures.inside;
      rows =
          chosen_run_more c.args.column.now.rows c.args.other.now.rows c.args.choice.now i e _ _ _ c.requires.rows c.requires.choice (omega arith) c.run_end-end.ensures.inside
          c.run_end-end.ensures.same c.loop-start.invariant.rows c.in_ok-append_run.ensures.ok;
      cost = omega arith;
    }
