use Rattle.std.proofs.Common.{arith, ap, ◌∙◌, ◌≡◌, ◌<◌, ◌+◌, ◌-◌, min, take, length, get_or, [], ◌++◌, List, ℕ}
use Rattle.std.proofs.lemmas.List.{append-nil}
use Rattle.std.specs.List.{flat_map, range_with_len}
use Rattle.vx_chunks.specs.Bounds.{total}
use Rattle.vx_chunks.proofs.Sums.{total-take_more, total-take_le}
use Rattle.vx_chunk_plans.specs.Runs.{part_row}
use Rattle.vx_chunk_plans.proofs.Cutting.{cut_rows, cut_within}
use Rattle.vx_chunk_plans.proofs.runs.cut.Goals as goal

pub overflow_add-chunk : goal.overflow_add-chunk
overflow_add-chunk c =
    omega (arith, c.nchunks.ensures, cut_within c.args.boundaries.now c.loop-left.chunk c.loop-left.place c.loop-left.left (omega arith) c.loop-left.invariant.inside)

pub loop-left-preserved : goal.loop-left-preserved
loop-left-preserved c =
    let lens = c.args.boundaries.now in
    let chunk = c.loop-left.chunk in
    let place = c.loop-left.place in
    let left = c.loop-left.left in
    let taken = c.min-taken.result in
    let inside = cut_within lens chunk place left (omega arith) c.loop-left.invariant.inside in
    let is : taken ≡ min left (get_or lens chunk 0 - place) = omega (arith, c.chunk_len.ensures) in
    record {
      place = omega arith;
      inside = omega (arith, is, c.loop-left.invariant.inside, c.loop-left.invariant.place, total-take_more lens chunk 0 inside, total-take_le lens (chunk + 1));
      rows = cut_rows lens (flat_map (part_row lens) c.loop-left.parts.items) (flat_map (part_row lens) c.push_part.new.parts.items) _ chunk place left taken inside c.loop-left.invariant.place is
          (c.in_ok-push_part.ensures.ok lens) c.loop-left.invariant.rows;
      there = λ old. c.in_ok-push_part.ensures.there lens inside (omega (arith, is, c.loop-left.invariant.place)) (c.loop-left.invariant.there old);
    }
