use Rattle.std.proofs.Common.{refl}
use Rattle.vx_column.proofs.patched.Patched+Column.column_of.Goals as goal

pub returns-clause-ok : goal.returns-clause-ok
returns-clause-ok c = record {
  array = c.in_ok-array.array;
  is = refl;
  inner_is = c.in_ok-array.ensures.inner;
  lanes_is = c.in_ok-array.ensures.lanes;
  sound = c.in_ok-array.ensures.sound;
}
