use Rattle.std.proofs.Common.{◌∙◌, ap, arith}
use Rattle.std.proofs.lemmas.List.{take_all}
use Rattle.vx_haystack.specs.Keys.{values_of}
use Rattle.vx_haystack.proofs.RowSets.{sorted_rows}
use Rattle.vx_haystack.proofs.rows.RowSet.new.Goals as goal

pub returns-clause-ok : goal.returns-clause-ok
returns-clause-ok c =
    sorted_rows (λ k. k.row) c.new.result c.loop-i.keys.items c.args.rows.now c.new.ensures (c.loop-i.invariant ∙ ap values_of (take_all c.loop-i.i c.args.rows.now (omega arith)))
