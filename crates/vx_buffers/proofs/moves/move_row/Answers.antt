use Rattle.std.proofs.Common.{◌≡◌, ◌∙◌, ◌-◌, ◌++◌, [], ◌∷◌, sym, ap, arith, length, slice_set, None, List, Option}
use Rattle.std.proofs.lemmas.List.{set_at}
use Rattle.vx_rows.specs.declared.value.Value.{Value}
use Rattle.vx_buffers.specs.declared.store.Store.{Store}
use Rattle.vx_buffers.specs.Stores.{rows_of}
use Rattle.vx_buffers.proofs.moves.move_row.Goals as goal

pub returns-in_ok-push-in-Rows-clause-ok : goal.returns-in_ok-push-in-Rows-clause-ok
returns-in_ok-push-in-Rows-clause-ok c =
    let row = c.pop_row.result in
    let rows = c.in-Rows.rows.items in
    let last = c.len-last.result - 1 in
    let at : length rows ≡ last = omega (arith, c.in-Rows.rows.ok.0, c.in_ok-push-in-Rows.ensures.len) in (
      row,
      c.pop_row.ensures,
      ap (λ (rs : List (Option Value)). slice_set rs last row) c.in_ok-push-in-Rows.ensures.items
          ∙ set_at rows None [] row last at
          ∙ ap (λ (s : Store). rows_of s ++ row ∷ []) (sym c.in-Rows.is),
    )
