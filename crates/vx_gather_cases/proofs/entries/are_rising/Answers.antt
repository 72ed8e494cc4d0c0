use Rattle.std.proofs.Common.{ℕ, ◌<◌, ◌≤◌, arith, get_or}
use Rattle.vx_gather_cases.proofs.Tests.{rising_more}
use Rattle.vx_gather_cases.proofs.entries.are_rising.Goals as goal

pub loop-i-preserved : goal.loop-i-preserved
loop-i-preserved c = record {
  up = rising_more c.args.kept.now c.loop-i.i (omega (arith, c.loop-i.invariant.some)) c.loop-i.invariant.up (omega arith);
  some = omega (arith, c.loop-i.invariant.some);
}
