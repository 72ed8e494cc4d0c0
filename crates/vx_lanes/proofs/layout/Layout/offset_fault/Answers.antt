use Rattle.std.proofs.Common.{sym, ◌∙◌}
use Rattle.vx_lanes.proofs.Sound.{offsets_type_tells}
use Rattle.vx_lanes.proofs.Typed.{u32_unsigned}
use Rattle.vx_lanes.proofs.layout.Layout.offset_fault.Goals as goal

pub do_lane_offsets_fall-requires : goal.do_lane_offsets_fall-requires
do_lane_offsets_fall-requires c =
    u32_unsigned c.args.self.now.lane_offsets.dtype (offsets_type_tells c.args.self.now (sym c.breaks_lane_offsets_type.ensures ∙ c.if-breaks_lane_offsets_type.false))
