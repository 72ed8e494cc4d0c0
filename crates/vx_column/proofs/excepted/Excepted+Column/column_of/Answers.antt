use Rattle.std.proofs.Common.{refl}
use Rattle.vx_column.proofs.excepted.Excepted+Column.column_of.Goals as goal

pub returns-clause-ok : goal.returns-clause-ok
returns-clause-ok c = record {
  array = c.in_ok-array.array;
  is = refl;
  base_is = c.in_ok-array.ensures.base;
  index_is = c.in_ok-array.ensures.index;
  values_is = c.in_ok-array.ensures.values;
  sound = c.in_ok-array.ensures.sound;
}
