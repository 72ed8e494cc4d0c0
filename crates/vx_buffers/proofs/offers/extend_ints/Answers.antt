use Rattle.std.proofs.Common.{◌∙◌, ◌++◌, sym, ap}
use Rattle.std.specs.List.{slice_range}
use Rattle.vx_rows.specs.declared.value.Value.{Int}
use Rattle.vx_buffers.specs.declared.store.Store.{Store}
use Rattle.vx_buffers.specs.Stores.{rows_of, int_rows}
use Rattle.vx_buffers.proofs.Rows.{extend_rows}
use Rattle.vx_buffers.proofs.offers.extend_ints.Goals as goal

pub returns-in_ok-extend-in-Ints-clause-ok : goal.returns-in_ok-extend-in-Ints-clause-ok
returns-in_ok-extend-in-Ints-clause-ok c =
    ap int_rows c.in_ok-extend-in-Ints.ensures.ok
    ∙ extend_rows Int c.args.numbers.now c.in-Ints.more c.args.range.start c.args.range.end
    ∙ ap (λ (s : Store). int_rows c.args.numbers.now ++ slice_range (rows_of s) c.args.range.start c.args.range.end) (sym c.in-Ints.is)
