use Rattle.std.proofs.Common.{arith, ap, sym, subst, refl, ◌∙◌, ◌≡◌, ◌<◌, ◌+◌, ◌^◌, ℕ, List, Option, Some, None, map, take, length, get_or}
use Rattle.std.specs.Prelude.{option_and_then}
use Rattle.std.specs.List.{slice_get}
use Rattle.std.proofs.lemmas.List.{take_all}
use Rattle.vx_chunks.specs.Bounds.{total}
use Rattle.vx_chunk_plans.specs.Deals.{dealt, present}
use Rattle.vx_chunk_plans.specs.Takes.{bucket_rows, in_order, rows_of, number_of}
use Rattle.vx_chunk_plans.proofs.Taking.{TakeCounts, chunk_below, fits_in, counts_none, room, counts_next, row_next, order_more}
use Rattle.vx_chunk_plans.proofs.take.restored.Goals as goal

pub starts-requires : goal.starts-requires
starts-requires c =
    omega (arith, ap (λ (bs : List (List ℕ)). total (map length bs)) c.requires.dealt, fits_in (length c.args.buckets.now) c.args.spots.now)

pub loop-spot-init : goal.loop-spot-init
loop-spot-init c =
    let n = length c.args.buckets.now in
    record {
      counts = counts_none n (present c.args.spots.now) c.in_ok-next.next.items c.in_ok-next.ensures.long
          (λ k h. c.in_ok-next.ensures.each k h ∙ ap (λ (bs : List (List ℕ)). total (take k (map length bs))) c.requires.dealt);
      rows = λ lens e. ap (λ (o : List (Option ℕ)). in_order (bucket_rows lens c.args.buckets.now) (Some o)) c.new-order.ensures.items;
    }

pub place_next-place-requires : goal.place_next-place-requires
place_next-place-requires c =
    let spots = c.args.spots.now in
    let i = c.loop-spot.spot-index in
    let n = length c.args.buckets.now in
    room spots i n c.loop-spot.next.items (omega arith) (chunk_below n spots i c.requires.below (omega arith)) c.loop-spot.invariant.counts (omega arith)

pub loop-spot-preserved : goal.loop-spot-preserved
loop-spot-preserved c =
    let spots = c.args.spots.now in
    let buckets = c.args.buckets.now in
    let i = c.loop-spot.spot-index in
    let n = length buckets in
    let next = c.loop-spot.next.items in
    let inside : i < length spots = omega arith in
    let below = chunk_below n spots i c.requires.below inside in
    record {
      counts = subst (λ (ns : List ℕ). TakeCounts n (present spots) (present (take (i + 1) spots)) ns) (sym c.place_next-place.ensures.next) (counts_next spots i n next inside below c.loop-spot.invariant.counts);
      rows = λ lens e.
          ap (λ (o : List (Option ℕ)). in_order (bucket_rows lens buckets) (Some o)) c.in_ok-push.ensures.items
          ∙ order_more lens (bucket_rows lens buckets) spots i c.loop-spot.order.items c.place_next-place.result inside (c.loop-spot.invariant.rows lens e)
          (ap (option_and_then (slice_get (bucket_rows lens buckets))) c.place_next-place.ensures.place
          ∙ ap (λ (bs : List (List ℕ)). option_and_then (slice_get (bucket_rows lens bs)) (number_of next (get_or spots i None))) c.requires.dealt
          ∙ row_next spots i n next inside below c.loop-spot.invariant.counts lens e);
    }

pub returns-clause-ok : goal.returns-clause-ok
returns-clause-ok c = λ lens e. c.loop-spot.invariant.rows lens e ∙ ap (rows_of lens) (take_all c.loop-spot.spot-index c.args.spots.now (omega arith))
