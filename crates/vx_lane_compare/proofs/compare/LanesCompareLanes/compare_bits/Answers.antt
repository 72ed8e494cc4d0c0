use Rattle.std.proofs.Common.{◌≡◌, ℤ, subst, List, Option, Some}
use Rattle.std.specs.Int.{w128}
use Rattle.std.proofs.lemmas.Int.{to_z-of_z}
use Rattle.vx_rows.specs.declared.value.Value.{Value, Int}
use Rattle.vx_lanes.specs.Layouts.{overlaid}
use Rattle.vx_scalars.specs.Elementwise.{compared}
use Rattle.vx_lane_compare.specs.Bits.{as_rows}
use Rattle.vx_lane_compare.proofs.compare.LanesCompareLanes.compare_bits.Goals as goal

pub returns-clause-means : goal.returns-clause-means
returns-clause-means g c =
    subst (λ (v : ℤ). (rows : List (Option Value)) → as_rows c.args.bits.now ≡ compared c.args.op (Some (Int v)) rows → as_rows c.compare.new.bits ≡ compared c.args.op (Some (Int v)) (overlaid c.args.self.now rows))
    (to_z-of_z w128 c.args.value c.ranges.value) c.compare.ensures.means
