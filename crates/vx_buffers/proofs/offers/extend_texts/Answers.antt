use Rattle.std.proofs.Common.{◌∙◌, ◌++◌, sym, ap}
use Rattle.std.specs.List.{slice_range}
use Rattle.vx_rows.specs.declared.value.Value.{Utf8}
use Rattle.vx_buffers.specs.declared.store.Store.{Store}
use Rattle.vx_buffers.specs.Stores.{rows_of, text_rows}
use Rattle.vx_buffers.proofs.Rows.{extend_rows}
use Rattle.vx_buffers.proofs.offers.extend_texts.Goals as goal

pub returns-in_ok-extend-in-Texts-clause-ok : goal.returns-in_ok-extend-in-Texts-clause-ok
returns-in_ok-extend-in-Texts-clause-ok c =
    ap text_rows c.in_ok-extend-in-Texts.ensures.ok
    ∙ extend_rows Utf8 c.args.texts.now c.in-Texts.more c.args.range.start c.args.range.end
    ∙ ap (λ (s : Store). text_rows c.args.texts.now ++ slice_range (rows_of s) c.args.range.start c.args.range.end) (sym c.in-Texts.is)
