use Rattle.std.proofs.Common.{◌≡◌, ◌∙◌, ap, sym, subst, arith, ℕ}
use Rattle.vx_base.specs.Ranges.{ends_cut}
use Rattle.vx_lanes.specs.Layouts.{layout_chunks}
use Rattle.vx_lanes.specs.declared.layout.Layout.{Layout}
use Rattle.vx_column.specs.Columns.{IsSliceOf, first_covered, end_covered, len_of}
use Rattle.vx_column.specs.declared.column.Column.{Column}
use Rattle.vx_column.proofs.Layers.{lanes_here}
use Rattle.vx_column.proofs.Lists.{ends_cut_most}
use Rattle.vx_column.proofs.LaneRows.{IsLaneCut, lanes_chunks, cut_kinds, cut_lanes, rise_most}
use Rattle.vx_column.proofs.patched.Patched+Column.slice_chunks.Goals as goal

pub returns-in_err-inner-clause-rise : goal.returns-in_err-inner-clause-rise
returns-in_err-inner-clause-rise g c plain =
    let rows = c.in_ok-lanes.rows in
    rise_most c.args.self.now c.inner.result.now (ends_cut rows.start rows.end (len_of c.inner.result.now)) c.args.steps.now c.slice.new.steps c.inner.ensures.value (ends_cut_most rows.start rows.end (len_of c.inner.result.now)) (c.slice.ensures.rise (c.inner.ensures.plain plain))

pub of-requires-clause-kinds : goal.of-requires-clause-kinds
of-requires-clause-kinds g c =
    let self = c.args.self.now in
    let from = c.args.chunks.start in
    let to = c.args.chunks.end in
    let rows = c.in_ok-lanes.rows in
    let first : rows.start ≡ first_covered self.lanes from to = c.in_ok-lanes.ensures.start ∙ ap (λ (l : Layout). first_covered l from to) c.lanes.ensures.value in
    let end : rows.end ≡ end_covered self.lanes from to = c.in_ok-lanes.ensures.end ∙ ap (λ (l : Layout). end_covered l from to) c.lanes.ensures.value in
    let made = c.in_ok-lanes.ensures.ok ∙ ap (λ (l : Layout). layout_chunks l from to) c.lanes.ensures.value in
    let lanes = subst (λ (l : Layout). IsLaneCut self.lanes l (first_covered self.lanes from to) (end_covered self.lanes from to)) (sym made)
    (lanes_chunks self.lanes from to (lanes_here self c.requires.sound).sound c.requires.ordered) in
    let inner = subst (λ (x : Column). IsSliceOf x c.in_ok-inner.inner rows.start rows.end) c.inner.ensures.value c.in_ok-inner.ensures.ok in
    let begun = subst (λ (n : ℕ). IsSliceOf self.inner c.in_ok-inner.inner n rows.end) first inner in
    let whole = subst (λ (n : ℕ). IsSliceOf self.inner c.in_ok-inner.inner (first_covered self.lanes from to) n) end begun in
    cut_kinds self c.in_ok-lanes.lanes (first_covered self.lanes from to) (end_covered self.lanes from to) c.requires.sound
    (omega (arith, first, end, c.in_ok-inner.ensures.ordered)) (omega (arith, end, c.in_ok-inner.ensures.inside, c.inner.ensures.len)) lanes c.in_ok-inner.inner whole

pub returns-clause-ok : goal.returns-clause-ok
returns-clause-ok g c =
    let self = c.args.self.now in
    let from = c.args.chunks.start in
    let to = c.args.chunks.end in
    let rows = c.in_ok-lanes.rows in
    let first : rows.start ≡ first_covered self.lanes from to = c.in_ok-lanes.ensures.start ∙ ap (λ (l : Layout). first_covered l from to) c.lanes.ensures.value in
    let end : rows.end ≡ end_covered self.lanes from to = c.in_ok-lanes.ensures.end ∙ ap (λ (l : Layout). end_covered l from to) c.lanes.ensures.value in
    let made = c.in_ok-lanes.ensures.ok ∙ ap (λ (l : Layout). layout_chunks l from to) c.lanes.ensures.value in
    let lanes = subst (λ (l : Layout). IsLaneCut self.lanes l (first_covered self.lanes from to) (end_covered self.lanes from to)) (sym made)
    (lanes_chunks self.lanes from to (lanes_here self c.requires.sound).sound c.requires.ordered) in
    let inner = subst (λ (x : Column). IsSliceOf x c.in_ok-inner.inner rows.start rows.end) c.inner.ensures.value c.in_ok-inner.ensures.ok in
    let begun = subst (λ (n : ℕ). IsSliceOf self.inner c.in_ok-inner.inner n rows.end) first inner in
    let whole = subst (λ (n : ℕ). IsSliceOf self.inner c.in_ok-inner.inner (first_covered self.lanes from to) n) end begun in
    cut_lanes self c.in_ok-array.array c.in_ok-lanes.lanes (first_covered self.lanes from to) (end_covered self.lanes from to) c.requires.sound lanes c.in_ok-inner.inner whole
    c.in_ok-array.ensures.inner c.in_ok-array.ensures.lanes c.in_ok-array.ensures.sound

pub returns-clause-rise : goal.returns-clause-rise
returns-clause-rise g c plain =
    let rows = c.in_ok-lanes.rows in
    rise_most c.args.self.now c.inner.result.now (ends_cut rows.start rows.end (len_of c.inner.result.now)) c.args.steps.now c.slice.new.steps c.inner.ensures.value (ends_cut_most rows.start rows.end (len_of c.inner.result.now)) (c.slice.ensures.rise (c.inner.ensures.plain plain))

pub returns-in_err-array-clause-rise : goal.returns-in_err-array-clause-rise
returns-in_err-array-clause-rise g c plain =
    let rows = c.in_ok-lanes.rows in
    rise_most c.args.self.now c.inner.result.now (ends_cut rows.start rows.end (len_of c.inner.result.now)) c.args.steps.now c.slice.new.steps c.inner.ensures.value (ends_cut_most rows.start rows.end (len_of c.inner.result.now)) (c.slice.ensures.rise (c.inner.ensures.plain plain))
