use Rattle.std.proofs.Common.{◌≡◌, ◌++◌, drop}
use Rattle.vx_pages.specs.RowJson.{row_json}
use Rattle.vx_pages.proofs.Lists.{tokens_left}
use Rattle.vx_pages.proofs.row_text.+rows.Given as goal

-- what is written, and what is left, are the whole list
abbrev pub invariant-write_rows-loop-row : goal.invariant-write_rows-loop-row
invariant-write_rows-loop-row l =
    (l.out.before ≡ l.initial.out.before)
    × (l.out.tokens ++ tokens_left row_json (drop l.row-index l.rows)
    ≡ l.initial.out.tokens ++ tokens_left row_json l.rows)
