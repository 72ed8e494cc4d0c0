use Rattle.std.proofs.Common.{arith}
use Rattle.std.specs.Option.{is_some}
use Rattle.vx_haystack.specs.Members.{members_have}
use Rattle.vx_haystack.proofs.Ranges.{map_range_more}
use Rattle.vx_haystack.proofs.lookups.look_up.Goals as goal

pub loop-start-preserved : goal.loop-start-preserved
loop-start-preserved g c =
    let rows = c.args.needles.now.rows in
    record {
      inside = omega arith;
      bits = map_range_more (members_have c.args.members.now) rows _ c.loop-start.start c.block_end-end.result _ _ (omega arith) c.in_ok-block.ensures.ok c.loop-start.invariant.bits c.in_ok-push_found.ensures.bits;
      valid = map_range_more is_some rows _ c.loop-start.start c.block_end-end.result _ _ (omega arith) c.in_ok-block.ensures.ok c.loop-start.invariant.valid c.in_ok-push_found.ensures.valid;
      cost = omega arith;
    }
