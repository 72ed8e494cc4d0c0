use Rattle.std.proofs.Common.{◌≡◌, subst, sym, Option}
use Rattle.std.specs.Prelude.{IfOk}
use Rattle.vx_rows.specs.Order.{row_cmp}
use Rattle.vx_rows.specs.declared.value.Value.{Value}
use Rattle.vx_scalars.proofs.Total.{row_cmp_total}
use Rattle.vx_search.specs.Answers.{standing}
use Rattle.vx_search.specs.Places.{place}
use Rattle.vx_job.specs.Lookups.{IsAscending}
use Rattle.vx_column.specs.Columns.{rows_of}
use Rattle.vx_column.specs.declared.column.Column.{Column}
use Rattle.vx_lookup.proofs.Sortedness.{rises}
use Rattle.vx_lookup.proofs.searching.search.Goals as goal

pub search_sorted-requires : goal.search_sorted-requires
search_sorted-requires g c =
    rises row_cmp_total c.row.result.now (rows_of c.in_ok-searcher.searcher)
    (subst (λ (x : Column). IsAscending (rows_of x)) (sym c.in_ok-searcher.ensures.ok) c.in_ok-check_order.ensures.sorted)

pub returns-clause-ok : goal.returns-clause-ok
returns-clause-ok g c =
    subst (λ (v : Option Value). IfOk c.search_sorted.result (λ p. p ≡ place c.args.side (standing row_cmp (rows_of c.args.column.now) v))) c.row.ensures.row
    (subst (λ (x : Column). IfOk c.search_sorted.result (λ p. p ≡ place c.args.side (standing row_cmp (rows_of x) c.row.result.now))) c.in_ok-searcher.ensures.ok c.search_sorted.ensures.ok)
