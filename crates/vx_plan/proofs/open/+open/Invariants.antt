use Rattle.std.proofs.Common.{◌≤◌, ◌+◌, ◌*◌, max, take}
use denote.Param.Weighed.{most}
use Rattle.vx_job.specs.Parts.{open_cost}
use Rattle.vx_job.proofs.part.Part.TheLaws.{the_size}
use Rattle.vx_plan.specs.Opened.{AreOpened}
use Rattle.vx_plan.proofs.open.+open.Given as goal

abbrev pub invariant-open_all-loop-number : goal.invariant-open_all-loop-number
invariant-open_all-loop-number g l = record {
  opened : AreOpened (take l.number l.parts) l.columns.items;
  rise : l.steps ≤ l.initial.steps + open_cost (take l.number l.parts);
  monotone : l.initial.steps ≤ l.steps;
}

-- the depth of the parts within, and behind it the order of calls
abbrev pub decreases-open_part : goal.decreases-open_part
decreases-open_part g l = 4 * the_size l.part.now + 0

abbrev pub decreases-open_child : goal.decreases-open_child
decreases-open_child g l = 4 * the_size l.part.now + 1

abbrev pub decreases-open_all : goal.decreases-open_all
decreases-open_all g l = 4 * most the_size l.parts.now + 2

abbrev pub decreases-open_chunked : goal.decreases-open_chunked
decreases-open_chunked g l = 4 * most the_size l.chunks.now + 3

abbrev pub decreases-open_interleaved : goal.decreases-open_interleaved
decreases-open_interleaved g l = 4 * most the_size l.values.now + 3

abbrev pub decreases-open_lanes : goal.decreases-open_lanes
decreases-open_lanes g l = 4 * the_size l.inner.now + 2

abbrev pub decreases-open_excepted : goal.decreases-open_excepted
decreases-open_excepted g l = 4 * max (the_size l.base.now) (the_size l.values.now) + 2
