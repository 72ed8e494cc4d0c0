use Rattle.std.proofs.Common.{sym, arith, ◌∙◌, ap, is_some, get_or, None, subst, ◌+◌, ◌≤◌}
use Rattle.std.proofs.lemmas.List.{length-map}
use Rattle.vx_column.specs.Columns.{len_of, point_cost, rows_of, IsPlain}
use Rattle.vx_column.specs.declared.column.Column.{Column}
use Rattle.vx_column.proofs.Cuts.{same_at, row_in, len_at, greatest_at, point_cost_is, plain_in, plain_at}
use Rattle.vx_column.proofs.Layers.{point_interleave, plain_interleave, point_excepted, point_patched}
use Rattle.vx_column.proofs.LaneRows.{row_some}
use Rattle.vx_column.proofs.+is_valid.Goals as goal

pub chunked::Chunked+Column::is_valid-returns-clause-value : goal.chunked::Chunked+Column::is_valid-returns-clause-value
chunked::Chunked+Column::is_valid-returns-clause-value g t c =
    let self = c.args.self.now in
    let r = c.find_chunk_idx-chunk.result in
    let x = c.index-chunks-chunk.result in
    let there = c.find_chunk_idx-chunk.ensures.inside c.requires.inside in
    let at_x = same_at c.children-chunks.result.now self.chunks r.0 x c.children-chunks.ensures.value c.index-chunks-chunk.is in
    let here = row_in self r.0 r.1 c.args.at x at_x there.0 (omega (arith, there.1, len_at self.chunks r.0 x there.0 at_x))
    c.find_chunk_idx-chunk.ensures.row in
    c.is_valid.ensures.value ∙ ap is_some (sym here)

pub chunked::Chunked+Column::is_valid-returns-clause-rise : goal.chunked::Chunked+Column::is_valid-returns-clause-rise
chunked::Chunked+Column::is_valid-returns-clause-rise g t c plain =
    let self = c.args.self.now in
    let r = c.find_chunk_idx-chunk.result in
    let x = c.index-chunks-chunk.result in
    let there = c.find_chunk_idx-chunk.ensures.inside c.requires.inside in
    let at_x = same_at c.children-chunks.result.now self.chunks r.0 x c.children-chunks.ensures.value c.index-chunks-chunk.is in
    omega (arith, c.find_chunk_idx-chunk.ensures.rise, (c.is_valid.ensures.rise (plain_in self r.0 x plain (omega (arith, there.0, length-map self.chunks len_of)) at_x)), point_cost_is self, greatest_at point_cost self.chunks r.0 x there.0 at_x)

pub interleave::Interleave+Column::is_valid-returns-clause-rise : goal.interleave::Interleave+Column::is_valid-returns-clause-rise
interleave::Interleave+Column::is_valid-returns-clause-rise g t c plain =
    let self = c.args.self.now in
    let x = c.index-values-value.result in
    let at_x = same_at c.children-values.result.now self.values c.named-value.result.0 x c.children-values.ensures.value c.index-values-value.is in
    omega (arith, c.named-value.ensures.cost, (c.is_valid.ensures.rise (plain_at self.values c.named-value.result.0 x c.named-value.ensures.value at_x (sym (plain_interleave self) ∙ plain))), point_interleave self, greatest_at point_cost self.values c.named-value.result.0 x c.named-value.ensures.value at_x)

pub patched::Patched+Column::is_valid-returns-clause-value : goal.patched::Patched+Column::is_valid-returns-clause-value
patched::Patched+Column::is_valid-returns-clause-value g t c =
    c.is_valid.ensures.value ∙ ap (λ (x : Column). is_some (get_or (rows_of x) c.args.at None)) c.inner.ensures.value ∙ sym (row_some c.args.self.now c.args.at c.requires.sound)

pub excepted::Excepted+Column::is_valid-returns-in-Some-clause-rise : goal.excepted::Excepted+Column::is_valid-returns-in-Some-clause-rise
excepted::Excepted+Column::is_valid-returns-in-Some-clause-rise g t c plain =
    let here = c.is_valid.ensures.rise (c.values.ensures.plain plain) in
    omega (arith, c.place_of.ensures.rise, here, point_excepted c.args.self.now, ap point_cost c.values.ensures.value)

pub excepted::Excepted+Column::is_valid-returns-in-None-clause-rise : goal.excepted::Excepted+Column::is_valid-returns-in-None-clause-rise
excepted::Excepted+Column::is_valid-returns-in-None-clause-rise g t c plain =
    let here = c.is_valid-in-None.ensures.rise (c.base.ensures.plain plain) in
    omega (arith, c.place_of.ensures.rise, here, point_excepted c.args.self.now, ap point_cost c.base.ensures.value)

pub patched::Patched+Column::is_valid-returns-clause-rise : goal.patched::Patched+Column::is_valid-returns-clause-rise
patched::Patched+Column::is_valid-returns-clause-rise g t c plain =
    let here = c.is_valid.ensures.rise (c.inner.ensures.plain plain) in
    omega (arith, here, point_patched c.args.self.now, ap point_cost c.inner.ensures.value)

pub column::Column::is_valid-returns-in-Chunked-clause-rise : goal.column::Column::is_valid-returns-in-Chunked-clause-rise
column::Column::is_valid-returns-in-Chunked-clause-rise g t c =
    subst (λ (x : Column). IsPlain x → c.is_valid.new.steps ≤ c.args.steps.now + point_cost x) (sym c.in-Chunked.is) c.is_valid.ensures.rise

pub column::Column::is_valid-returns-in-Patched-clause-rise : goal.column::Column::is_valid-returns-in-Patched-clause-rise
column::Column::is_valid-returns-in-Patched-clause-rise g t c =
    subst (λ (x : Column). IsPlain x → c.is_valid-in-Patched.new.steps ≤ c.args.steps.now + point_cost x) (sym c.in-Patched.is) c.is_valid-in-Patched.ensures.rise

pub column::Column::is_valid-returns-in-Excepted-clause-rise : goal.column::Column::is_valid-returns-in-Excepted-clause-rise
column::Column::is_valid-returns-in-Excepted-clause-rise g t c =
    subst (λ (x : Column). IsPlain x → c.is_valid-in-Excepted.new.steps ≤ c.args.steps.now + point_cost x) (sym c.in-Excepted.is) c.is_valid-in-Excepted.ensures.rise

pub column::Column::is_valid-returns-in-Interleave-clause-rise : goal.column::Column::is_valid-returns-in-Interleave-clause-rise
column::Column::is_valid-returns-in-Interleave-clause-rise g t c =
    subst (λ (x : Column). IsPlain x → c.is_valid-in-Interleave.new.steps ≤ c.args.steps.now + point_cost x) (sym c.in-Interleave.is) c.is_valid-in-Interleave.ensures.rise
