use Rattle.std.proofs.Common.{arith, ap, ◌*◌}
use Rattle.vx_lanes.proofs.Entries.{entry_within, entries_fit}
use Rattle.vx_lanes.proofs.lanes.Lanes.lane_range.Goals as goal

pub overflow_mul-entry : goal.overflow_mul-entry
overflow_mul-entry g c =
    let l = c.args.self.now in
    omega (arith, entries_fit l c.n_lanes.ensures.layout, entry_within l c.args.chunk c.args.lane c.n_lanes.ensures.layout c.requires.chunk c.requires.lane, ap (λ n. c.args.chunk * n) c.n_lanes.ensures.value)

pub overflow_add-entry : goal.overflow_add-entry
overflow_add-entry g c =
    let l = c.args.self.now in
    omega (arith, entries_fit l c.n_lanes.ensures.layout, entry_within l c.args.chunk c.args.lane c.n_lanes.ensures.layout c.requires.chunk c.requires.lane, ap (λ n. c.args.chunk * n) c.n_lanes.ensures.value)

pub overflow_add-entry-2 : goal.overflow_add-entry-2
overflow_add-entry-2 g c =
    let l = c.args.self.now in
    omega (arith, entries_fit l c.n_lanes.ensures.layout, entry_within l c.args.chunk c.args.lane c.n_lanes.ensures.layout c.requires.chunk c.requires.lane, ap (λ n. c.args.chunk * n) c.n_lanes.ensures.value)
