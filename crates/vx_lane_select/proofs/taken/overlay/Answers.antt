use Rattle.std.proofs.Common.{◌≡◌, ◌≤◌, arith}
use Rattle.vx_lane_select.proofs.Under.{taken_same}
use Rattle.vx_lane_select.proofs.taken.overlay.Goals as goal

pub returns-clause-ok : goal.returns-clause-ok
returns-clause-ok g c = taken_same c.args.lanes.now c.args.taken.now c.args.rows.now c.loop-k.rows c.loop-k.invariant.len c.requires.len (λ j h. c.loop-k.invariant.laid j (omega (arith, h, c.loop-k.invariant.len)))
