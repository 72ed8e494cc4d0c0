use Rattle.std.proofs.Common.{arith, sym, ◌∙◌}
use Rattle.vx_chunk_plans.proofs.Cutting.{in_turn_parts}
use Rattle.vx_chunk_plans.proofs.runs.order_of.Goals as goal

pub returns-then-in_turn-clause-ok : goal.returns-then-in_turn-clause-ok
returns-then-in_turn-clause-ok c = λ lens e.
    in_turn_parts lens c.args.parts.now c.args.pieces.now e c.requires.dealt c.requires.below (sym c.in_turn.ensures ∙ c.if-in_turn.true)
