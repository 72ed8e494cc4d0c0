use Rattle.std.proofs.Common.{arith}
use Rattle.vx_elementwise.proofs.Ranges.{take_range_more, fits_range_more}
use Rattle.vx_elementwise.proofs.cast.cast_rows.Goals as goal

pub loop-start-preserved : goal.loop-start-preserved
loop-start-preserved g c =
    let rows = c.args.column.now.rows in
    let start = c.loop-start.start in
    let end = c.block_end-end.result in
    record {
      inside = omega arith;
      rows = take_range_more rows _ _ start end (omega arith) c.loop-start.invariant.rows c.in_ok-cast_block.ensures.ok;
      fits = fits_range_more c.args.dtype.now rows start end (omega arith) c.loop-start.invariant.fits c.in_ok-cast_block.ensures.fits;
      cost = omega arith;
    }
