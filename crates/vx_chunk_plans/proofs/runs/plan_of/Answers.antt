use Rattle.std.proofs.Common.{arith, ap, sym, subst, ◌∙◌, ◌≡◌, ℕ, List, length}
use Rattle.std.specs.List.{AllZip}
use Rattle.vx_chunk_plans.specs.Deals.{dealt}
use Rattle.vx_chunk_plans.specs.Runs.{piece_rows, in_runs, OrdersWithin, AreRunsOf}
use Rattle.vx_chunk_plans.proofs.Dealing.{length-dealt}
use Rattle.vx_chunk_plans.proofs.Cutting.{dealt_within, parts_wide}
use Rattle.vx_chunk_plans.proofs.runs.plan_of.Goals as goal

pub order_of-requires-clause-dealt : goal.order_of-requires-clause-dealt
order_of-requires-clause-dealt c =
    let parts = c.args.parts.now in
    let same = c.as_slice.ensures.value ∙ c.in_ok-pieces.ensures.ok in
    same ∙ ap (λ n. dealt 0 n parts) (sym (ap length same ∙ length-dealt 0 c.nchunks.result parts))

pub order_of-requires-clause-below : goal.order_of-requires-clause-below
order_of-requires-clause-below c =
    let same = c.as_slice.ensures.value ∙ c.in_ok-pieces.ensures.ok in
    λ i d h. omega (arith, (c.requires.there i d h).0, c.nchunks.ensures, ap length same, length-dealt 0 c.nchunks.result c.args.parts.now)

pub order_of-requires-clause-fits : goal.order_of-requires-clause-fits
order_of-requires-clause-fits c = omega (arith, c.requires.fits, parts_wide c.args.boundaries.now c.args.parts.now)

pub returns-clause-ok : goal.returns-clause-ok
returns-clause-ok c =
    let lens = c.args.boundaries.now in
    let same = c.as_slice.ensures.value ∙ c.in_ok-pieces.ensures.ok in
    let long : length lens ≡ length c.as_slice.result.now = omega (arith, c.nchunks.ensures, ap length same, length-dealt 0 c.nchunks.result c.args.parts.now) in
    ap (λ (ps : List (List (ℕ × ℕ))). in_runs (piece_rows lens ps) c.in_ok-order.order) (c.from_vec.ensures ∙ sym c.as_slice.ensures.value) ∙ c.in_ok-order.ensures.ok lens long

pub returns-clause-within : goal.returns-clause-within
returns-clause-within c =
    let lens = c.args.boundaries.now in
    let parts = c.args.parts.now in
    let same = c.from_vec.ensures ∙ c.in_ok-pieces.ensures.ok ∙ ap (λ n. dealt 0 n parts) c.nchunks.ensures in
    subst (λ (ps : List (List (ℕ × ℕ))). AllZip AreRunsOf lens ps) (sym same) (dealt_within lens parts c.requires.there)

pub returns-clause-order : goal.returns-clause-order
returns-clause-order c =
    let lens = c.args.boundaries.now in
    let same = c.as_slice.ensures.value ∙ c.in_ok-pieces.ensures.ok in
    let long : length lens ≡ length c.as_slice.result.now = omega (arith, c.nchunks.ensures, ap length same, length-dealt 0 c.nchunks.result c.args.parts.now) in
    subst (λ (ps : List (List (ℕ × ℕ))). OrdersWithin (length (piece_rows lens ps)) c.in_ok-order.order) (c.as_slice.ensures.value ∙ sym c.from_vec.ensures) (c.in_ok-order.ensures.within lens long)
