use Rattle.vx_column.specs.declared.column.Column.{Column}
use Rattle.vx_column.specs.declared.column.Column.TheVariants as column
use Rattle.std.proofs.Common.{◌≡◌, ◌+◌, ◌++◌, sym, arith, ap, ◌∙◌, take, subst, ◌≤◌, length}
use Rattle.vx_lanes.specs.Layouts.{exceptions}
use Rattle.vx_lanes.specs.declared.layout.Layout.{Layout}
use Rattle.vx_job.specs.Rows.{Rows}
use Rattle.std.proofs.lemmas.List.{take_all}
use Rattle.vx_column.specs.Columns.{rows_of, IsPlain, select_bound, len_of}
use Rattle.vx_column.proofs.Cuts.{rows_in, rows_more, held_at}
use Rattle.vx_column.proofs.Layers.{rows_chunked}
use Rattle.vx_column.proofs.Appends.{append_next, append_bound, appended_next, appended_all, patched_bound}
use Rattle.vx_column.proofs.+append_rows.Goals as goal

pub chunked::Chunked+Column::append_rows-returns-in_err-append_rows-clause-rise : goal.chunked::Chunked+Column::append_rows-returns-in_err-append_rows-clause-rise
chunked::Chunked+Column::append_rows-returns-in_err-append_rows-clause-rise g t c plain =
    let self = c.args.self.now in
    let xs = c.children-chunk-items.result.now in
    let k = c.loop-chunk.chunk-index in
    let next = append_next self xs k c.chunk-item.result c.args.steps.now c.loop-chunk.steps c.append_rows.new.steps c.children-chunk-items.ensures.value (omega arith) c.chunk-item.is (c.loop-chunk.invariant.rise plain) (c.append_rows.ensures.rise (held_at IsPlain xs k c.chunk-item.result (c.children-chunk-items.ensures.plain plain) (omega arith) c.chunk-item.is)) in
    append_bound self xs (k + 1) c.args.steps.now c.append_rows.new.steps c.children-chunk-items.ensures.value next

pub chunked::Chunked+Column::append_rows-loop-chunk-preserved : goal.chunked::Chunked+Column::append_rows-loop-chunk-preserved
chunked::Chunked+Column::append_rows-loop-chunk-preserved g t c =
    let self = c.args.self.now in
    let xs = c.children-chunk-items.result.now in
    let k = c.loop-chunk.chunk-index in
    let old = c.args.out.now in
    let more = rows_more xs k c.chunk-item.result (omega arith) c.chunk-item.is in
    record {
      appended = appended_next old (rows_in (take k xs)) c.loop-chunk.out (rows_of c.chunk-item.result) c.append_rows.new.out (rows_in (take (k + 1) xs)) c.loop-chunk.invariant.appended c.in_ok-append_rows.ensures.ok more;
      rise = λ plain. append_next self xs k c.chunk-item.result c.args.steps.now c.loop-chunk.steps c.append_rows.new.steps c.children-chunk-items.ensures.value (omega arith) c.chunk-item.is (c.loop-chunk.invariant.rise plain) (c.append_rows.ensures.rise (held_at IsPlain xs k c.chunk-item.result (c.children-chunk-items.ensures.plain plain) (omega arith) c.chunk-item.is));
      monotone = omega (arith, c.append_rows.ensures.monotone, c.loop-chunk.invariant.monotone);
    }

pub chunked::Chunked+Column::append_rows-returns-clause-ok : goal.chunked::Chunked+Column::append_rows-returns-clause-ok
chunked::Chunked+Column::append_rows-returns-clause-ok g t c =
    let self = c.args.self.now in
    let xs = c.children-chunk-items.result.now in
    let k = c.loop-chunk.chunk-index in
    let all : rows_in (take k xs) ≡ rows_of (column.Chunked self) = ap rows_in (take_all k xs (omega arith) ∙ c.children-chunk-items.ensures.value) ∙ sym (rows_chunked self) in
    appended_all c.args.out.now (rows_in (take k xs)) c.loop-chunk.out (rows_of (column.Chunked self)) c.loop-chunk.invariant.appended all

pub chunked::Chunked+Column::append_rows-returns-clause-rise : goal.chunked::Chunked+Column::append_rows-returns-clause-rise
chunked::Chunked+Column::append_rows-returns-clause-rise g t c plain =
    append_bound c.args.self.now c.children-chunk-items.result.now c.loop-chunk.chunk-index c.args.steps.now c.loop-chunk.steps c.children-chunk-items.ensures.value (c.loop-chunk.invariant.rise plain)

pub column::Column::append_rows-returns-in-Chunked-clause-rise : goal.column::Column::append_rows-returns-in-Chunked-clause-rise
column::Column::append_rows-returns-in-Chunked-clause-rise g t c =
    subst (λ (x : Column). IsPlain x → c.append_rows.new.steps ≤ c.args.steps.now + select_bound x (len_of x)) (sym c.in-Chunked.is) c.append_rows.ensures.rise

pub column::Column::append_rows-returns-in-Patched-clause-rise : goal.column::Column::append_rows-returns-in-Patched-clause-rise
column::Column::append_rows-returns-in-Patched-clause-rise g t c =
    subst (λ (x : Column). IsPlain x → c.append_rows-in-Patched.new.steps ≤ c.args.steps.now + select_bound x (len_of x)) (sym c.in-Patched.is) c.append_rows-in-Patched.ensures.rise

pub patched::Patched+Column::append_rows-returns-in_err-append_rows-clause-rise : goal.patched::Patched+Column::append_rows-returns-in_err-append_rows-clause-rise
patched::Patched+Column::append_rows-returns-in_err-append_rows-clause-rise g t c plain =
    let self = c.args.self.now in
    let whole = column.Patched self in
    omega (arith, c.append_rows.ensures.rise (c.inner.ensures.plain plain), patched_bound self c.inner.result.now (len_of whole) (len_of c.inner.result.now) c.inner.ensures.value c.inner.ensures.len)

pub patched::Patched+Column::append_rows-returns-clause-rise : goal.patched::Patched+Column::append_rows-returns-clause-rise
patched::Patched+Column::append_rows-returns-clause-rise g t c plain =
    let self = c.args.self.now in
    let whole = column.Patched self in
    let inner = c.append_rows.ensures.rise (c.inner.ensures.plain plain) in
    let bound = patched_bound self c.inner.result.now (len_of whole) (len_of c.inner.result.now) c.inner.ensures.value c.inner.ensures.len in
    let over = c.append_overlaid.ensures.rise in
    let lanes = ap (λ (l : Layout). length l.lane_offsets.rows + exceptions l) c.lanes.ensures.value in
    let rows = ap (λ (rows : Rows). length rows) (c.in_ok-append_rows.ensures.ok ∙ ap (λ (front : Rows). front ++ rows_of c.inner.result.now) c.new-rows.ensures) in
    omega (arith, inner, bound, over, lanes, rows, c.inner.ensures.len)
