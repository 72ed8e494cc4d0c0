use Rattle.std.proofs.Common.{◌∙◌, sym}
use Rattle.vx_elementwise.proofs.Ranges.{run_of_values}
use Rattle.vx_elementwise.proofs.fill.keep_or_fill.Goals as goal

pub returns-then-is_valid-clause-ok : goal.returns-then-is_valid-clause-ok
returns-then-is_valid-clause-ok c =
    run_of_values c.args.value.now c.args.filled.now c.args.rows.now c.args.run.start c.args.run.end c.requires.order c.requires.inside (sym c.is_valid.ensures ∙ c.if-is_valid.true)
