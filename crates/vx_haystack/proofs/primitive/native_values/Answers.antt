use Rattle.std.proofs.Common.{ap, arith, None}
use Rattle.vx_buffers.specs.Numbers.{row_int}
use Rattle.vx_rows.specs.Fits.{is_in_range}
use Rattle.vx_haystack.specs.Keys.{passing_key}
use Rattle.vx_haystack.proofs.Keys.{given_more}
use Rattle.vx_haystack.proofs.primitive.native_values.Goals as goal

pub loop-i-preserved : goal.loop-i-preserved
loop-i-preserved g c =
    given_more (λ r. passing_key (is_in_range g.T.Native.ptype) (row_int r)) c.args.rows.now c.loop-i.i None _ _ _ (omega arith) c.loop-i.invariant (ap (passing_key (is_in_range g.T.Native.ptype)) c.int.ensures)
    c.in_ok-push_native.ensures.ok
