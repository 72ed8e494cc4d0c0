use Rattle.std.proofs.Common.{◌≡◌, take}
use Rattle.std.specs.List.{All}
use Rattle.vx_base.specs.Column.{IsFlat}
use Rattle.vx_interleave_gather.specs.Gathered.{lens_of}
use Rattle.vx_interleave_gather.proofs.columns.lens_of.Given as goal

abbrev pub invariant-loop-value : goal.invariant-loop-value
invariant-loop-value l = record {
  lens : l.lens.items ≡ lens_of (take l.value-index l.values);
  fits : All IsFlat (take l.value-index l.values);
}
