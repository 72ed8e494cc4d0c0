use Rattle.std.proofs.Common.{◌≡◌, subst, take, arith}
use Rattle.std.specs.List.{All}
use Rattle.std.proofs.lemmas.List.{take_all}
use Rattle.vx_base.specs.Column.{IsFlat}
use Rattle.vx_interleave_gather.proofs.Fitting.{all_more}
use Rattle.vx_interleave_gather.proofs.Named.{lens_more}
use Rattle.vx_interleave_gather.proofs.columns.lens_of.Goals as goal

pub loop-value-preserved : goal.loop-value-preserved
loop-value-preserved c = record {
  lens = lens_more c.args.values.now c.loop-value.value-index c.value-item.result c.len.result c.loop-value.lens.items c.push.new.self.items (omega arith) c.value-item.is c.loop-value.invariant.lens c.len.ensures c.in_ok-push.ensures.items;
  fits = all_more IsFlat c.args.values.now c.loop-value.value-index c.value-item.result (omega arith) c.value-item.is c.loop-value.invariant.fits c.dtype.ensures.fits;
}

pub returns-clause-fits : goal.returns-clause-fits
returns-clause-fits c = subst (All IsFlat) (take_all c.loop-value.value-index c.args.values.now (omega arith)) c.loop-value.invariant.fits
