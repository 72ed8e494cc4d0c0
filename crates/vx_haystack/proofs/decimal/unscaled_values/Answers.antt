use Rattle.std.proofs.Common.{◌∙◌, ap, arith, None}
use Rattle.std.specs.Option.{option_to_list}
use Rattle.vx_haystack.specs.Keys.{row_decimal}
use Rattle.vx_haystack.proofs.Keys.{given_more}
use Rattle.vx_haystack.proofs.decimal.unscaled_values.Goals as goal

pub loop-i-preserved : goal.loop-i-preserved
loop-i-preserved c =
    given_more (λ r. option_to_list (row_decimal r)) c.args.rows.now c.loop-i.i None _ _ _ (omega arith) c.loop-i.invariant (ap option_to_list (c.unscaled.ensures ∙ ap row_decimal c.get.ensures)) c.in_ok-push_some.ensures.ok
