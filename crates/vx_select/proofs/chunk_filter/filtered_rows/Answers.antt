use Rattle.std.proofs.Common.{ap, subst, ◌∙◌, ◌≡◌, ◌+◌, ◌≤◌, ℕ, length, map}
use Rattle.std.proofs.lemmas.Result.{IfOk-weaker}
use Rattle.vx_masks.specs.Bits.{kept}
use Rattle.vx_masks.specs.Masks.{bits_of}
use Rattle.vx_job.specs.Rows.{Rows, picked}
use Rattle.vx_chunk_plans.specs.Filters.{kept_rows as rows_kept}
use Rattle.vx_column.specs.Columns.{rows_of, len_of, select_bound}
use Rattle.vx_column.specs.declared.column.Column.TheVariants as column
use Rattle.vx_select.proofs.Chosen.{places_many, kept_rows}
use Rattle.vx_select.proofs.chunk_filter.filtered_rows.Goals as goal

pub returns-clause-ok : goal.returns-clause-ok
returns-clause-ok g c =
    let array = c.args.array.now in
    let all = rows_of (column.Chunked array) in
    let bits = bits_of c.args.mask.now in
    let lens = map len_of array.chunks in
    let places = ap (rows_kept lens) c.as_slice.ensures ∙ c.in_ok-filters.ensures.ok in
    let same = ap (picked all) places ∙ kept_rows all bits c.requires.long in
    IfOk-weaker c.rows_by.result (λ (rows : Rows). rows ≡ picked all (rows_kept lens c.as_slice.result.now)) (λ (rows : Rows). rows ≡ kept all bits) (λ rows e. e ∙ same) c.rows_by.ensures.ok

pub returns-clause-rise : goal.returns-clause-rise
returns-clause-rise g c =
    let array = c.args.array.now in
    let lens = map len_of array.chunks in
    let many = ap length (ap (rows_kept lens) c.as_slice.ensures ∙ c.in_ok-filters.ensures.ok) ∙ places_many (bits_of c.args.mask.now) in
    let rise : c.rows_by.new.steps ≤ c.args.steps.now + select_bound (column.Chunked array) (length (rows_kept lens c.as_slice.result.now)) =
    subst (λ (s : ℕ). c.rows_by.new.steps ≤ s + select_bound (column.Chunked array) (length (rows_kept lens c.as_slice.result.now))) c.planned.ensures.rise c.rows_by.ensures.rise in
    subst (λ (n : ℕ). c.rows_by.new.steps ≤ c.args.steps.now + select_bound (column.Chunked array) n) many rise
