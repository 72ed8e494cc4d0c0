use Rattle.std.proofs.Common.{◌≤◌, ◌^◌, arith}
use Rattle.std.proofs.lemmas.Nat.{mul-le}
use Rattle.vx_lanes.proofs.Firsts.{short_fits, lane_count_few}
use Rattle.vx_lanes.proofs.layout.Layout.breaks_lane_offsets_length.Goals as goal

pub overflow_add-self : goal.overflow_add-self
overflow_add-self c = omega (arith, short_fits c.args.self.now c.requires.short)

pub overflow_mul-result : goal.overflow_mul-result
overflow_mul-result c =
    let few : c.args.self.now.n_lanes ≤ 256 = omega (arith, lane_count_few c.args.self.now c.requires.count) in
    let chunks : c.div_ceil-chunks.result ≤ 2 ^ 54 = omega (arith, short_fits c.args.self.now c.requires.short) in
    omega (arith, mul-le c.args.self.now.n_lanes c.div_ceil-chunks.result 256 (2 ^ 54) few chunks)

pub overflow_add-result : goal.overflow_add-result
overflow_add-result c =
    let few : c.args.self.now.n_lanes ≤ 256 = omega (arith, lane_count_few c.args.self.now c.requires.count) in
    let chunks : c.div_ceil-chunks.result ≤ 2 ^ 54 = omega (arith, short_fits c.args.self.now c.requires.short) in
    omega (arith, mul-le c.args.self.now.n_lanes c.div_ceil-chunks.result 256 (2 ^ 54) few chunks)
