use Rattle.std.proofs.Common.{◌≡◌, take, map}
use Rattle.vx_buffers.specs.Numbers.{row_int}
use Rattle.vx_haystack.specs.Keys.{passing}
use Rattle.vx_rows.specs.Fits.{is_in_range}
use Rattle.vx_haystack.proofs.primitive.native_values.Given as goal

abbrev pub invariant-loop-i : goal.invariant-loop-i
invariant-loop-i g l = map g.T.SetInteger.number l.values ≡ passing (is_in_range g.T.Native.ptype) row_int (take l.i l.rows)
