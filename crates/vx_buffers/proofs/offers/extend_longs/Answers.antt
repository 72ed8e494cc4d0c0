use Rattle.std.proofs.Common.{◌∙◌, ◌++◌, sym, ap}
use Rattle.std.specs.List.{slice_range}
use Rattle.vx_buffers.specs.declared.store.Store.{Store}
use Rattle.vx_buffers.specs.Stores.{rows_of, long_rows, long_value}
use Rattle.vx_buffers.proofs.Rows.{extend_rows}
use Rattle.vx_buffers.proofs.offers.extend_longs.Goals as goal

pub returns-in_ok-extend-in-Longs-clause-ok : goal.returns-in_ok-extend-in-Longs-clause-ok
returns-in_ok-extend-in-Longs-clause-ok c =
    ap long_rows c.in_ok-extend-in-Longs.ensures.ok
    ∙ extend_rows long_value c.args.numbers.now c.in-Longs.more c.args.range.start c.args.range.end
    ∙ ap (λ (s : Store). long_rows c.args.numbers.now ++ slice_range (rows_of s) c.args.range.start c.args.range.end) (sym c.in-Longs.is)
