use Rattle.std.proofs.Common.{arith, ap, sym, subst, ◌∙◌, ◌≡◌, ℕ, List, length}
use Rattle.std.specs.List.{AllZip}
use Rattle.vx_chunk_plans.specs.Deals.{dealt, present}
use Rattle.vx_chunk_plans.specs.Takes.{bucket_rows, in_order, AreBelow}
use Rattle.vx_chunk_plans.proofs.Dealing.{length-dealt}
use Rattle.vx_chunk_plans.proofs.Taking.{dealt_below}
use Rattle.vx_chunk_plans.proofs.take.plan_of.Goals as goal

pub deal-requires : goal.deal-requires
deal-requires c = λ i d h. omega (arith, (c.requires i d h).0, c.nchunks.ensures)

pub order_of-requires-clause-dealt : goal.order_of-requires-clause-dealt
order_of-requires-clause-dealt c =
    let spots = present c.args.spots.now in
    let same = c.as_slice.ensures.value ∙ c.in_ok-buckets.ensures.ok in
    same ∙ ap (λ n. dealt 0 n spots) (sym (ap length same ∙ length-dealt 0 c.nchunks.result spots))

pub order_of-requires-clause-below : goal.order_of-requires-clause-below
order_of-requires-clause-below c =
    let same = c.as_slice.ensures.value ∙ c.in_ok-buckets.ensures.ok in
    λ i d h. omega (arith, (c.requires i d h).0, c.nchunks.ensures, ap length same, length-dealt 0 c.nchunks.result (present c.args.spots.now))

pub returns-clause-ok : goal.returns-clause-ok
returns-clause-ok c =
    let lens = c.args.boundaries.now in
    let same = c.as_slice.ensures.value ∙ c.in_ok-buckets.ensures.ok in
    let long : length lens ≡ length c.as_slice.result.now = omega (arith, c.nchunks.ensures, ap length same, length-dealt 0 c.nchunks.result (present c.args.spots.now)) in
    ap (λ (bs : List (List ℕ)). in_order (bucket_rows lens bs) c.in_ok-order.order) (c.from_vec.ensures ∙ sym c.as_slice.ensures.value) ∙ c.in_ok-order.ensures.ok lens long

pub returns-clause-within : goal.returns-clause-within
returns-clause-within c =
    let lens = c.args.boundaries.now in
    let spots = present c.args.spots.now in
    let same = c.from_vec.ensures ∙ c.in_ok-buckets.ensures.ok ∙ ap (λ n. dealt 0 n spots) c.nchunks.ensures in
    subst (λ (bs : List (List ℕ)). AllZip AreBelow lens bs) (sym same) (dealt_below lens spots c.requires)

pub returns-clause-joined : goal.returns-clause-joined
returns-clause-joined c = c.in_ok-order.ensures.joined
