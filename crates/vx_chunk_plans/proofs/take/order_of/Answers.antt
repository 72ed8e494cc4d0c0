use Rattle.std.proofs.Common.{arith, ◌∙◌, sym}
use Rattle.std.proofs.lemmas.Bool.{false≢true}
use Rattle.vx_chunk_plans.proofs.Taking.{in_turn_rows}
use Rattle.vx_chunk_plans.proofs.take.order_of.Goals as goal

pub returns-then-are_in_order-clause-ok : goal.returns-then-are_in_order-clause-ok
returns-then-are_in_order-clause-ok c = λ lens e.
    in_turn_rows lens c.args.spots.now c.args.buckets.now e c.requires.dealt c.requires.below (sym c.are_in_order.ensures ∙ c.if-are_in_order.true)

pub returns-clause-joined : goal.returns-clause-joined
returns-clause-joined c = λ t. absurd (false≢true (sym c.if-are_in_order.false ∙ c.are_in_order.ensures ∙ t))
