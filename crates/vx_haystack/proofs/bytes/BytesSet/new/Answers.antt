use Rattle.std.proofs.Common.{◌∙◌, ap, arith}
use Rattle.vx_haystack.specs.Keys.{row_bytes}
use Rattle.vx_haystack.proofs.ByteSets.{bytes_more}
use Rattle.vx_haystack.proofs.bytes.BytesSet.new.Goals as goal

pub loop-i-preserved : goal.loop-i-preserved
loop-i-preserved c =
    bytes_more row_bytes c.args.rows.now c.loop-i.i _ _ _ (omega arith) (c.bytes_of.ensures ∙ ap row_bytes c.get.ensures) c.loop-i.invariant c.in_ok-insert_some.ensures.ok
