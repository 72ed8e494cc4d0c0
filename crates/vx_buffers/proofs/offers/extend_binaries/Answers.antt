use Rattle.std.proofs.Common.{◌∙◌, ◌++◌, sym, ap}
use Rattle.std.specs.List.{slice_range}
use Rattle.vx_rows.specs.declared.value.Value.{Binary}
use Rattle.vx_buffers.specs.declared.store.Store.{Store}
use Rattle.vx_buffers.specs.Stores.{rows_of, binary_rows}
use Rattle.vx_buffers.proofs.Rows.{extend_rows}
use Rattle.vx_buffers.proofs.offers.extend_binaries.Goals as goal

pub returns-in_ok-extend-in-Binaries-clause-ok : goal.returns-in_ok-extend-in-Binaries-clause-ok
returns-in_ok-extend-in-Binaries-clause-ok c =
    ap binary_rows c.in_ok-extend-in-Binaries.ensures.ok
    ∙ extend_rows Binary c.args.binaries.now c.in-Binaries.more c.args.range.start c.args.range.end
    ∙ ap (λ (s : Store). binary_rows c.args.binaries.now ++ slice_range (rows_of s) c.args.range.start c.args.range.end) (sym c.in-Binaries.is)
