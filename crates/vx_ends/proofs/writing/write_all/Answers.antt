use Rattle.std.proofs.Common.{arith}
use Rattle.std.proofs.lemmas.Grind.{common_steps}
use Rattle.vx_ends.proofs.Steps.{next_part, appends_more}
use Rattle.vx_ends.proofs.writing.write_all.Goals as goal

pub turns-preserved : goal.turns-preserved
turns-preserved g c =
    let both = appends_more _ _ _ _ _ c.turns.invariant.0 c.in_ok-at.ensures.bytes in (
      rw (next_part c.args.text.now c.turns.at c.in_ok-at.field-0) both,
      grind (arith, common_steps),
      grind (arith, common_steps),
      grind (arith, common_steps),
    )
