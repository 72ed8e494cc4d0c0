use Rattle.std.proofs.Common.{arith, rules, false, get_or}
use Rattle.vx_elementwise.proofs.Ranges.{run_of_one, run_more}
use Rattle.vx_elementwise.proofs.zip.run_end.Goals as goal

pub loop-i-init : goal.loop-i-init
loop-i-init c = run_of_one c.args.choice.now c.args.start false c.requires

pub loop-i-preserved : goal.loop-i-preserved
loop-i-preserved c =
    run_more c.args.choice.now c.args.start c.loop-i.i (get_or c.args.choice.now c.args.start false) false (omega arith) (omega arith) c.loop-i.invariant (search rules)
