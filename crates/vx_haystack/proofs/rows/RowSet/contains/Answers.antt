use Rattle.std.proofs.Common.{◌∙◌, ap, sym, ◌&&◌}
use Rattle.std.specs.List.{list_any}
use Rattle.std.specs.Ordering.{is_eq}
use Rattle.vx_rows.specs.Order.{row_cmp}
use Rattle.vx_buffers.specs.Refs.{row_of_ref}
use Rattle.vx_haystack.proofs.ByteSets.{any_map}
use Rattle.vx_haystack.proofs.rows.RowSet.contains.Goals as goal

pub returns-then-is_valid : goal.returns-then-is_valid
returns-then-is_valid c =
    let row = row_of_ref c.args.row in
    c.found.ensures ∙ ap (list_any (λ k. is_eq (row_cmp k.row row))) c.as_slice.ensures.list ∙ sym (any_map (λ k. k.row) (λ e. is_eq (row_cmp e row)) c.self.inside.keys)
    ∙ ap (list_any (λ e. is_eq (row_cmp e row))) c.self.view_is ∙ ap (λ b. b && list_any (λ e. is_eq (row_cmp e row)) c.args.self.now) (sym c.if-is_valid.true ∙ c.is_valid.ensures)
