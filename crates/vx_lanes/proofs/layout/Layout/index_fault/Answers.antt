use Rattle.std.proofs.Common.{◌≡◌, ◌-◌, arith, sym, ap, ◌∙◌}
use Rattle.vx_lanes.specs.Layouts.{entries, lane_start}
use Rattle.vx_lanes.proofs.Firsts.{length_tells, lanes_positive}
use Rattle.vx_lanes.proofs.Sound.{offsets_pass, end_tells, index_type_tells}
use Rattle.vx_lanes.proofs.Typed.{u16_unsigned, u32_unsigned}
use Rattle.vx_lanes.proofs.layout.Layout.index_fault.Goals as goal

pub overflow_sub-len : goal.overflow_sub-len
overflow_sub-len g c = omega (arith, length_tells c.args.self.now (offsets_pass c.args.self.now c.requires).length)

pub lane_offset_at-end-requires-clause-unsigned : goal.lane_offset_at-end-requires-clause-unsigned
lane_offset_at-end-requires-clause-unsigned g c = u32_unsigned c.args.self.now.lane_offsets.dtype (offsets_pass c.args.self.now c.requires).kind

pub lane_offset_at-end-requires-clause-inside : goal.lane_offset_at-end-requires-clause-inside
lane_offset_at-end-requires-clause-inside g c = omega (arith, length_tells c.args.self.now (offsets_pass c.args.self.now c.requires).length)

pub returns-then-ends_past-clause-rise : goal.returns-then-ends_past-clause-rise
returns-then-ends_past-clause-rise g c = omega (arith, length_tells c.args.self.now (offsets_pass c.args.self.now c.requires).length)

pub returns-then-breaks_lane_index_type-clause-rise : goal.returns-then-breaks_lane_index_type-clause-rise
returns-then-breaks_lane_index_type-clause-rise g c = omega (arith, length_tells c.args.self.now (offsets_pass c.args.self.now c.requires).length)

pub returns-then-breaks_lane_lengths-clause-rise : goal.returns-then-breaks_lane_lengths-clause-rise
returns-then-breaks_lane_lengths-clause-rise g c = omega (arith, length_tells c.args.self.now (offsets_pass c.args.self.now c.requires).length)

pub returns-then-breaks_lane_too_many-clause-rise : goal.returns-then-breaks_lane_too_many-clause-rise
returns-then-breaks_lane_too_many-clause-rise g c = omega (arith, length_tells c.args.self.now (offsets_pass c.args.self.now c.requires).length)

pub index_faults-faults-requires-clause-offsets : goal.index_faults-faults-requires-clause-offsets
index_faults-faults-requires-clause-offsets g c = u32_unsigned c.args.self.now.lane_offsets.dtype (offsets_pass c.args.self.now c.requires).kind

pub index_faults-faults-requires-clause-indices : goal.index_faults-faults-requires-clause-indices
index_faults-faults-requires-clause-indices g c =
    u16_unsigned c.args.self.now.patch_indices.dtype (index_type_tells c.args.self.now (sym c.breaks_lane_index_type.ensures ∙ c.if-breaks_lane_index_type.false))

pub index_faults-faults-requires-clause-some : goal.index_faults-faults-requires-clause-some
index_faults-faults-requires-clause-some g c = omega (arith, length_tells c.args.self.now (offsets_pass c.args.self.now c.requires).length)

pub index_faults-faults-requires-clause-lanes : goal.index_faults-faults-requires-clause-lanes
index_faults-faults-requires-clause-lanes g c = lanes_positive c.args.self.now (offsets_pass c.args.self.now c.requires).count

pub index_faults-faults-requires-clause-rising : goal.index_faults-faults-requires-clause-rising
index_faults-faults-requires-clause-rising g c = (offsets_pass c.args.self.now c.requires).rising

pub index_faults-faults-requires-clause-inside : goal.index_faults-faults-requires-clause-inside
index_faults-faults-requires-clause-inside g c =
    let last : c.len.result - 1 ≡ entries c.args.self.now = omega arith in
    omega (arith, c.lane_offset_at-end.ensures.offset, ap (lane_start c.args.self.now) last, end_tells c.args.self.now (sym c.ends_past.ensures ∙ c.if-ends_past.false))

pub returns-then-faults-clause-rise : goal.returns-then-faults-clause-rise
returns-then-faults-clause-rise g c = omega (arith, length_tells c.args.self.now (offsets_pass c.args.self.now c.requires).length, c.index_faults-faults.ensures.rise)

pub returns-then-faults-2-clause-rise : goal.returns-then-faults-2-clause-rise
returns-then-faults-2-clause-rise g c = omega (arith, length_tells c.args.self.now (offsets_pass c.args.self.now c.requires).length, c.index_faults-faults.ensures.rise)

pub returns-then-faults-3-clause-rise : goal.returns-then-faults-3-clause-rise
returns-then-faults-3-clause-rise g c = omega (arith, length_tells c.args.self.now (offsets_pass c.args.self.now c.requires).length, c.index_faults-faults.ensures.rise)

pub returns-clause-rise : goal.returns-clause-rise
returns-clause-rise g c = omega (arith, length_tells c.args.self.now (offsets_pass c.args.self.now c.requires).length, c.index_faults-faults.ensures.rise)
