use Rattle.vx_column.specs.declared.column.Column.{Column}
use Rattle.std.proofs.Common.{ap, ◌≡◌, sym, arith, ◌∙◌, get_or, None, subst, ◌+◌, ◌≤◌}
use Rattle.std.proofs.lemmas.Result.{IfOk-weaker}
use Rattle.std.proofs.lemmas.List.{length-map}
use Rattle.vx_column.specs.Columns.{len_of, rows_of, point_cost, IsPlain}
use Rattle.vx_column.specs.declared.column.Column.TheVariants as column
use Rattle.vx_column.proofs.Cuts.{same_at, row_in, len_at, greatest_at, point_cost_is, plain_in, plain_at}
use Rattle.vx_column.proofs.Layers.{point_interleave, plain_interleave, point_excepted, point_patched}
use Rattle.vx_column.proofs.Types.{interleaved_free}
use Rattle.vx_column.proofs.+row.Goals as goal

pub chunked::Chunked+Column::row-returns-clause-ok : goal.chunked::Chunked+Column::row-returns-clause-ok
chunked::Chunked+Column::row-returns-clause-ok g t c =
    let self = c.args.self.now in
    let r = c.find_chunk_idx-chunk.result in
    let x = c.index-chunks-chunk.result in
    let there = c.find_chunk_idx-chunk.ensures.inside c.requires.inside in
    let at_x = same_at c.children-chunks.result.now self.chunks r.0 x c.children-chunks.ensures.value c.index-chunks-chunk.is in
    let here = row_in self r.0 r.1 c.args.at x at_x there.0 (omega (arith, there.1, len_at self.chunks r.0 x there.0 at_x))
    c.find_chunk_idx-chunk.ensures.row in
    IfOk-weaker c.row.result (λ row. row ≡ get_or (rows_of x) r.1 None) (λ row. row ≡ get_or (rows_of (column.Chunked self)) c.args.at None) (λ row e. e ∙ sym here) c.row.ensures.ok

pub chunked::Chunked+Column::row-returns-clause-rise : goal.chunked::Chunked+Column::row-returns-clause-rise
chunked::Chunked+Column::row-returns-clause-rise g t c plain =
    let self = c.args.self.now in
    let r = c.find_chunk_idx-chunk.result in
    let x = c.index-chunks-chunk.result in
    let there = c.find_chunk_idx-chunk.ensures.inside c.requires.inside in
    let at_x = same_at c.children-chunks.result.now self.chunks r.0 x c.children-chunks.ensures.value c.index-chunks-chunk.is in
    omega (arith, c.find_chunk_idx-chunk.ensures.rise, (c.row.ensures.rise (plain_in self r.0 x plain (omega (arith, there.0, length-map self.chunks len_of)) at_x)), point_cost_is self, greatest_at point_cost self.chunks r.0 x there.0 at_x)

pub interleave::Interleave+Column::row-returns-clause-free : goal.interleave::Interleave+Column::row-returns-clause-free
interleave::Interleave+Column::row-returns-clause-free g t c light =
    let self = c.args.self.now in
    let x = c.index-values-value.result in
    let at_x = same_at c.children-values.result.now self.values c.named-value.result.0 x c.children-values.ensures.value c.index-values-value.is in
    c.row.ensures.free (interleaved_free self c.named-value.result.0 x c.requires.sound c.named-value.ensures.value at_x light)

pub interleave::Interleave+Column::row-returns-clause-rise : goal.interleave::Interleave+Column::row-returns-clause-rise
interleave::Interleave+Column::row-returns-clause-rise g t c plain =
    let self = c.args.self.now in
    let x = c.index-values-value.result in
    let at_x = same_at c.children-values.result.now self.values c.named-value.result.0 x c.children-values.ensures.value c.index-values-value.is in
    omega (arith, c.named-value.ensures.cost, (c.row.ensures.rise (plain_at self.values c.named-value.result.0 x c.named-value.ensures.value at_x (sym (plain_interleave self) ∙ plain))), point_interleave self, greatest_at point_cost self.values c.named-value.result.0 x c.named-value.ensures.value at_x)

pub excepted::Excepted+Column::row-returns-in-Some-clause-rise : goal.excepted::Excepted+Column::row-returns-in-Some-clause-rise
excepted::Excepted+Column::row-returns-in-Some-clause-rise g t c plain =
    let here = c.row.ensures.rise (c.values.ensures.plain plain) in
    omega (arith, c.place_of.ensures.rise, here, point_excepted c.args.self.now, ap point_cost c.values.ensures.value)

pub excepted::Excepted+Column::row-returns-in-None-clause-rise : goal.excepted::Excepted+Column::row-returns-in-None-clause-rise
excepted::Excepted+Column::row-returns-in-None-clause-rise g t c plain =
    let here = c.row-in-None.ensures.rise (c.base.ensures.plain plain) in
    omega (arith, c.place_of.ensures.rise, here, point_excepted c.args.self.now, ap point_cost c.base.ensures.value)

pub patched::Patched+Column::row-returns-in_err-row-clause-rise : goal.patched::Patched+Column::row-returns-in_err-row-clause-rise
patched::Patched+Column::row-returns-in_err-row-clause-rise g t c plain =
    let here = c.row.ensures.rise (c.inner.ensures.plain plain) in
    omega (arith, here, point_patched c.args.self.now, ap point_cost c.inner.ensures.value)

pub patched::Patched+Column::row-returns-clause-rise : goal.patched::Patched+Column::row-returns-clause-rise
patched::Patched+Column::row-returns-clause-rise g t c plain =
    let here = c.row.ensures.rise (c.inner.ensures.plain plain) in
    omega (arith, here, point_patched c.args.self.now, ap point_cost c.inner.ensures.value, c.replaced.ensures.rise)

pub column::Column::row-returns-in-Chunked-clause-rise : goal.column::Column::row-returns-in-Chunked-clause-rise
column::Column::row-returns-in-Chunked-clause-rise g t c =
    subst (λ (x : Column). IsPlain x → c.row.new.steps ≤ c.args.steps.now + point_cost x) (sym c.in-Chunked.is) c.row.ensures.rise

pub column::Column::row-returns-in-Patched-clause-rise : goal.column::Column::row-returns-in-Patched-clause-rise
column::Column::row-returns-in-Patched-clause-rise g t c =
    subst (λ (x : Column). IsPlain x → c.row-in-Patched.new.steps ≤ c.args.steps.now + point_cost x) (sym c.in-Patched.is) c.row-in-Patched.ensures.rise

pub column::Column::row-returns-in-Excepted-clause-rise : goal.column::Column::row-returns-in-Excepted-clause-rise
column::Column::row-returns-in-Excepted-clause-rise g t c =
    subst (λ (x : Column). IsPlain x → c.row-in-Excepted.new.steps ≤ c.args.steps.now + point_cost x) (sym c.in-Excepted.is) c.row-in-Excepted.ensures.rise

pub column::Column::row-returns-in-Interleave-clause-rise : goal.column::Column::row-returns-in-Interleave-clause-rise
column::Column::row-returns-in-Interleave-clause-rise g t c =
    subst (λ (x : Column). IsPlain x → c.row-in-Interleave.new.steps ≤ c.args.steps.now + point_cost x) (sym c.in-Interleave.is) c.row-in-Interleave.ensures.rise
