use Rattle.std.proofs.Common.{◌≡◌, ◌*◌, ◌/◌, arith, sym, ap, ◌∙◌, subst}
use Rattle.std.proofs.lemmas.Result.{IfOk-weaker}
use Rattle.vx_lanes.specs.declared.layout.Layout.{Layout}
use Rattle.vx_lanes.specs.Layouts.{IsLayout, exception_of}
use Rattle.vx_lanes.proofs.Entries.{entries_fit}
use Rattle.vx_lanes.proofs.Slices.{base, size, size_within, slice_sound, slice_means, slice_is}
use Rattle.vx_lanes.proofs.lanes.Lanes.rows_between.Goals as goal

pub overflow_mul-from : goal.overflow_mul-from
overflow_mul-from c =
    let l = c.args.self.now in
    let s = c.n_lanes-n_lanes.ensures.layout in
    let same : c.place_at-row.result / 1024 * c.n_lanes-n_lanes.result ≡ base l c.args.start = cc in
    omega (arith, entries_fit l s, size_within l c.args.start c.args.end s c.requires.ordered c.requires.inside)

pub overflow_add-from : goal.overflow_add-from
overflow_add-from c =
    let l = c.args.self.now in
    let s = c.n_lanes-n_lanes.ensures.layout in
    let same : c.place_at-row.result / 1024 * c.n_lanes-n_lanes.result ≡ base l c.args.start = cc in
    let many : c.n_lanes-n_lanes.result * c.chunk_count.result ≡ size l c.args.start c.args.end = cc in
    omega (arith, entries_fit l s, size_within l c.args.start c.args.end s c.requires.ordered c.requires.inside)

pub part-requires-clause-inside : goal.part-requires-clause-inside
part-requires-clause-inside c =
    let l = c.args.self.now in
    let s = c.n_lanes-n_lanes.ensures.layout in
    let same : c.place_at-row.result / 1024 * c.n_lanes-n_lanes.result ≡ base l c.args.start = cc in
    let many : c.n_lanes-n_lanes.result * c.chunk_count.result ≡ size l c.args.start c.args.end = cc in
    omega (arith, s.offsets, size_within l c.args.start c.args.end s c.requires.ordered c.requires.inside)

pub part-requires-clause-sound : goal.part-requires-clause-sound
part-requires-clause-sound c =
    let l = c.args.self.now in
    subst (λ (m : Layout). IsLayout m)
    (sym (slice_is l c.args.start c.args.end c.n_lanes-n_lanes.result c.place_at-row.result c.chunk_count.result c.n_lanes-n_lanes.ensures.value c.place_at-row.ensures.place c.chunk_count.ensures))
    (slice_sound l c.args.start c.args.end c.n_lanes-n_lanes.ensures.layout c.requires.ordered c.requires.inside)

pub returns-clause-means : goal.returns-clause-means
returns-clause-means c =
    let l = c.args.self.now in
    IfOk-weaker c.part.result _ _
    (λ m p row w. ap (λ (n : Layout). exception_of n row)
    (p ∙ slice_is l c.args.start c.args.end c.n_lanes-n_lanes.result c.place_at-row.result c.chunk_count.result c.n_lanes-n_lanes.ensures.value c.place_at-row.ensures.place c.chunk_count.ensures)
    ∙ slice_means l c.args.start c.args.end row c.n_lanes-n_lanes.ensures.layout c.requires.ordered c.requires.inside w)
    c.part.ensures.ok
