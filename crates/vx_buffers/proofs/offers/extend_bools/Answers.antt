use Rattle.std.proofs.Common.{◌∙◌, ◌++◌, sym, ap}
use Rattle.std.specs.List.{slice_range}
use Rattle.vx_rows.specs.declared.value.Value.{Bool as BoolValue}
use Rattle.vx_buffers.specs.declared.store.Store.{Store}
use Rattle.vx_buffers.specs.Stores.{rows_of, bool_rows}
use Rattle.vx_buffers.proofs.Rows.{extend_rows}
use Rattle.vx_buffers.proofs.offers.extend_bools.Goals as goal

pub returns-in_ok-extend-in-Bools-clause-ok : goal.returns-in_ok-extend-in-Bools-clause-ok
returns-in_ok-extend-in-Bools-clause-ok c =
    ap bool_rows c.in_ok-extend-in-Bools.ensures.ok
    ∙ extend_rows BoolValue c.args.truths.now c.in-Bools.more c.args.range.start c.args.range.end
    ∙ ap (λ (s : Store). bool_rows c.args.truths.now ++ slice_range (rows_of s) c.args.range.start c.args.range.end) (sym c.in-Bools.is)
