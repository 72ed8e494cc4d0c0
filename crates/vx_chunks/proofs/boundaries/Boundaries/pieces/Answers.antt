use Rattle.std.proofs.Common.{arith, ◌<◌}
use Rattle.vx_chunks.specs.Plans.{IsFull}
use Rattle.vx_chunks.proofs.Sums.{in_order}
use Rattle.vx_chunks.proofs.boundaries.Boundaries.pieces.Goals as goal
use Rattle.vx_chunks.proofs.boundaries.Boundaries.pieces.Goals.{else-start-eq0-via-then-start-eq0+else-end-len, else-start-eq0-via-else-start-eq0}

pub returns-clause-plan : goal.returns-clause-plan
returns-clause-plan g c =
    let from = c.front-first in
    let to = c.back-last in
    let lens = c.args.self.now in
    let start = c.args.range.start in
    let end = c.args.range.end in
    let less : start < end = omega (arith, c.requires.ordered, c.if-start-end.false) in
    let part : IsFull lens start end → ⊥ = λ full. elim c.else-start-eq0.branch as (λ _. ⊥) [
      | else-start-eq0-via-then-start-eq0+else-end-len w ↦ omega (arith, w.if-end-len.false, w.len.ensures, full.1)
      | else-start-eq0-via-else-start-eq0 w ↦ omega (arith, w.if-start-eq0.false, full.0)
    ] in
    let ordered = in_order lens from.result.0 to.result.0 from.result.1 to.result.1 start end to.ensures.chunk from.ensures.row to.ensures.row to.ensures.place less in (
      (less, part),
      omega (arith, ordered, c.if-first-last.false),
      record {
        ordered = ordered;
        within = to.ensures.chunk;
        front = from.ensures.row;
        back = to.ensures.row;
        front_within = from.ensures.place;
        back_within = to.ensures.place;
        back_full = to.ensures.full;
      },
    )
