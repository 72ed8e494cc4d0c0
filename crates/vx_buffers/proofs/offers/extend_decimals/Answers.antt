use Rattle.std.proofs.Common.{◌∙◌, ◌++◌, sym, ap}
use Rattle.std.specs.List.{slice_range}
use Rattle.vx_rows.specs.declared.value.Value.{Decimal}
use Rattle.vx_buffers.specs.declared.store.Store.{Store}
use Rattle.vx_buffers.specs.Stores.{rows_of, decimal_rows}
use Rattle.vx_buffers.proofs.Rows.{extend_rows}
use Rattle.vx_buffers.proofs.offers.extend_decimals.Goals as goal

pub returns-in_ok-extend-in-Decimals-clause-ok : goal.returns-in_ok-extend-in-Decimals-clause-ok
returns-in_ok-extend-in-Decimals-clause-ok c =
    ap decimal_rows c.in_ok-extend-in-Decimals.ensures.ok
    ∙ extend_rows Decimal c.args.unscaled.now c.in-Decimals.more c.args.range.start c.args.range.end
    ∙ ap (λ (s : Store). decimal_rows c.args.unscaled.now ++ slice_range (rows_of s) c.args.range.start c.args.range.end) (sym c.in-Decimals.is)
