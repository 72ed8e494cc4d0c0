use Rattle.std.proofs.Common.{arith, ap, sym, subst, ◌∙◌, ◌≡◌, ◌<◌, ◌≤◌, ◌+◌, ◌^◌, ℕ, List, Some, map, take, length, get_or, vec_len}
use Rattle.std.specs.List.{flat_map, slice_range}
use Rattle.std.proofs.lemmas.List.{take_all}
use Rattle.std.proofs.lemmas.List.Elements.{All-nil, All-push}
use Rattle.vx_chunks.specs.Bounds.{total}
use Rattle.vx_chunk_plans.specs.Deals.{dealt}
use Rattle.vx_chunk_plans.specs.Runs.{run_total, piece_rows, in_runs, OrdersWithin, part_row}
use Rattle.vx_chunk_plans.proofs.Cutting.{RunCounts, Part, part_same, fits_in_runs, counts_none, run_room, run_counts_next, run_next, order_pushed}
use Rattle.vx_chunk_plans.proofs.runs.restored.Goals as goal

pub starts-requires : goal.starts-requires
starts-requires c =
    omega (arith, ap (λ (ps : List (List (ℕ × ℕ))). total (map run_total ps)) c.requires.dealt, fits_in_runs (length c.args.pieces.now) c.args.parts.now, c.requires.fits)

pub loop-chunk-init : goal.loop-chunk-init
loop-chunk-init c =
    let pieces = c.args.pieces.now in
    record {
      counts = counts_none (length pieces) c.args.parts.now c.in_ok-next.next.items c.in_ok-next.ensures.long
          (λ k h. c.in_ok-next.ensures.each k h ∙ ap (λ (ps : List (List (ℕ × ℕ))). total (take k (map run_total ps))) c.requires.dealt);
      rows = λ lens e. ap (λ (o : List (ℕ × ℕ)). in_runs (piece_rows lens pieces) (Some o)) c.new-order.ensures.items;
      within = λ lens e. subst (λ (o : List (ℕ × ℕ)). OrdersWithin (length (piece_rows lens pieces)) (Some o)) (sym c.new-order.ensures.items)
          (All-nil (λ (run : ℕ × ℕ). run.0 + run.1 ≤ length (piece_rows lens pieces)));
    }

pub place_next-place-requires-clause-fits : goal.place_next-place-requires-clause-fits
place_next-place-requires-clause-fits c =
    let parts = c.args.parts.now in
    let i = c.loop-chunk.chunk-index in
    let inside : i < length parts = omega arith in
    omega (arith, c.requires.fits, run_room parts i (length c.args.pieces.now) c.loop-chunk.next.items (get_or parts i (0, (0, 0))) inside (part_same parts i (0, (0, 0)) inside) (c.requires.below i (0, (0, 0)) inside) c.loop-chunk.invariant.counts)

pub loop-chunk-preserved : goal.loop-chunk-preserved
loop-chunk-preserved c =
    let parts = c.args.parts.now in
    let pieces = c.args.pieces.now in
    let i = c.loop-chunk.chunk-index in
    let n = length pieces in
    let next = c.loop-chunk.next.items in
    let order = c.loop-chunk.order.items in
    let inside : i < length parts = omega arith in
    let s = get_or parts i (0, (0, 0)) in
    let at = part_same parts i (0, (0, 0)) inside in
    let below = c.requires.below i (0, (0, 0)) inside in
    let place = c.place_next-place.result in
    record {
      counts = subst (λ (ns : List ℕ). RunCounts n parts (take (i + 1) parts) ns) (sym c.place_next-place.ensures.next) (run_counts_next parts i n next s inside at below c.loop-chunk.invariant.counts);
      rows = λ lens e.
          ap (λ (o : List (ℕ × ℕ)). in_runs (piece_rows lens pieces) (Some o)) c.in_ok-push.ensures.items
          ∙ order_pushed lens (piece_rows lens pieces) parts i order place s inside at (c.loop-chunk.invariant.rows lens e)
          (ap (λ p. slice_range (piece_rows lens pieces) p (p + s.1.1)) c.place_next-place.ensures.place
          ∙ ap (λ (ps : List (List (ℕ × ℕ))). slice_range (piece_rows lens ps) (get_or next s.0 0) (get_or next s.0 0 + s.1.1)) c.requires.dealt
          ∙ (run_next parts i n next s inside at below c.loop-chunk.invariant.counts lens e).0);
      within = λ lens e. subst (λ (o : List (ℕ × ℕ)). OrdersWithin (length (piece_rows lens pieces)) (Some o)) (sym c.in_ok-push.ensures.items)
          (All-push (λ (run : ℕ × ℕ). run.0 + run.1 ≤ length (piece_rows lens pieces)) order (place, s.1.1) (c.loop-chunk.invariant.within lens e)
          (let room : place + s.1.1 ≤ length (piece_rows lens pieces) =
          omega (arith, (run_next parts i n next s inside at below c.loop-chunk.invariant.counts lens e).1, c.place_next-place.ensures.place, ap (λ (ps : List (List (ℕ × ℕ))). length (piece_rows lens ps)) c.requires.dealt) in room));
    }
