use Rattle.std.proofs.Common.{map, arith, ◌∙◌, sym}
use Rattle.std.proofs.lemmas.List.{length-map}
use Rattle.vx_column.specs.Columns.{len_of}
use Rattle.vx_metadata.proofs.Bounds.{type_tells, count_tells}
use Rattle.vx_metadata.proofs.boundaries.boundary_fault.Goals as goal

pub bound_at-start-requires-clause-unsigned : goal.bound_at-start-requires-clause-unsigned
bound_at-start-requires-clause-unsigned g c = type_tells c.args.chunk_offsets.now (sym c.breaks_type.ensures ∙ c.if-breaks_type.false)

pub bound_at-start-requires-clause-inside : goal.bound_at-start-requires-clause-inside
bound_at-start-requires-clause-inside g c = omega (arith, count_tells c.args.chunk_offsets.now (map len_of c.args.chunks.now) (sym c.breaks_count.ensures ∙ c.if-breaks_count.false))

pub returns-then-breaks_start-clause-rise : goal.returns-then-breaks_start-clause-rise
returns-then-breaks_start-clause-rise g c = omega (arith, c.bound_at-start.ensures.cost, count_tells c.args.chunk_offsets.now (map len_of c.args.chunks.now) (sym c.breaks_count.ensures ∙ c.if-breaks_count.false))

pub do_fall-requires : goal.do_fall-requires
do_fall-requires g c = type_tells c.args.chunk_offsets.now (sym c.breaks_type.ensures ∙ c.if-breaks_type.false)

pub returns-then-do_fall-clause-rise : goal.returns-then-do_fall-clause-rise
returns-then-do_fall-clause-rise g c = omega (arith, c.bound_at-start.ensures.cost, count_tells c.args.chunk_offsets.now (map len_of c.args.chunks.now) (sym c.breaks_count.ensures ∙ c.if-breaks_count.false))

pub walk-end-requires-clause-unsigned : goal.walk-end-requires-clause-unsigned
walk-end-requires-clause-unsigned g c = type_tells c.args.chunk_offsets.now (sym c.breaks_type.ensures ∙ c.if-breaks_type.false)

pub walk-end-requires-clause-count : goal.walk-end-requires-clause-count
walk-end-requires-clause-count g c = omega (arith, length-map c.args.chunks.now len_of, count_tells c.args.chunk_offsets.now (map len_of c.args.chunks.now) (sym c.breaks_count.ensures ∙ c.if-breaks_count.false))

pub returns-then-breaks_end-clause-rise : goal.returns-then-breaks_end-clause-rise
returns-then-breaks_end-clause-rise g c = omega (arith, c.bound_at-start.ensures.cost, c.walk-end.ensures.cost, length-map c.args.chunks.now len_of, count_tells c.args.chunk_offsets.now (map len_of c.args.chunks.now) (sym c.breaks_count.ensures ∙ c.if-breaks_count.false))

pub returns-then-off_span-clause-rise : goal.returns-then-off_span-clause-rise
returns-then-off_span-clause-rise g c = omega (arith, c.bound_at-start.ensures.cost, c.walk-end.ensures.cost, length-map c.args.chunks.now len_of, count_tells c.args.chunk_offsets.now (map len_of c.args.chunks.now) (sym c.breaks_count.ensures ∙ c.if-breaks_count.false))

pub returns-clause-rise : goal.returns-clause-rise
returns-clause-rise g c = omega (arith, c.bound_at-start.ensures.cost, c.walk-end.ensures.cost, length-map c.args.chunks.now len_of, count_tells c.args.chunk_offsets.now (map len_of c.args.chunks.now) (sym c.breaks_count.ensures ∙ c.if-breaks_count.false))
