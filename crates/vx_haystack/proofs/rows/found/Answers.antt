use Rattle.std.proofs.Common.{rules, ◌∙◌}
use Rattle.std.specs.Cmp.{on_total}
use Rattle.std.proofs.lemmas.Fn.{always_returns_same}
use Rattle.vx_buffers.specs.Refs.{row_of_ref}
use Rattle.vx_rows.specs.Order.{row_cmp}
use Rattle.vx_haystack.specs.declared.rows.RowKey.{RowKey}
use Rattle.vx_scalars.proofs.Total.{row_cmp_total}
use Rattle.vx_haystack.proofs.Searches.{found}
use Rattle.vx_haystack.proofs.rows.found.Goals as goal

pub returns : goal.returns
returns c =
    let facts = c.binary_search_by.ensures in
    let position = facts.position (λ k. row_cmp k.row (row_of_ref c.args.row)) (always_returns_same _ _ _ (λ a r g called. search rules)) in
    c.is_ok.ensures.value ∙ found {X = RowKey} {R = λ a b. row_cmp a.row b.row} (on_total (λ k. k.row) row_cmp_total) c.args.keys.now (record { row = row_of_ref c.args.row }) c.binary_search_by.result c.requires facts.bound position
