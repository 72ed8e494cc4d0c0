use Rattle.std.proofs.Common.{arith, ap, ◌∙◌}
use Rattle.vx_lanes.specs.declared.layout.Layout.{Layout}
use Rattle.vx_lanes.proofs.Slices.{none_sound, chunk_place, none_place}
use Rattle.vx_lanes.proofs.lanes.Lanes.slice_chunks.Goals as goal

pub part-requires-clause-inside : goal.part-requires-clause-inside
part-requires-clause-inside c = omega (arith, c.chunk_row-start.ensures.layout.offsets)

pub part-requires-clause-sound : goal.part-requires-clause-sound
part-requires-clause-sound c = none_sound c.args.self.now c.chunk_row-start.ensures.layout

pub returns-then-chunks-clause-offset : goal.returns-then-chunks-clause-offset
returns-then-chunks-clause-offset c = ap (λ (m : Layout). m.offset) c.in_ok-part.ensures.ok ∙ none_place c.args.self.now c.args.chunks.start c.args.chunks.end (omega arith)

pub returns-clause-offset : goal.returns-clause-offset
returns-clause-offset c =
    ap (λ (m : Layout). m.offset) c.in_ok-lanes.ensures.ok
    ∙ chunk_place c.args.self.now c.args.chunks.start c.args.chunks.end c.chunk_row-start.result c.chunk_row-end.result c.chunk_row-start.ensures.layout (omega arith) c.requires.inside c.chunk_row-start.ensures.row
