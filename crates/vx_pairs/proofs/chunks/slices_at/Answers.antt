use Rattle.std.proofs.Common.{refl}
use Rattle.vx_column.specs.declared.column.Column.TheVariants as column
use Rattle.vx_pairs.proofs.Slices.{moved_slice}
use Rattle.vx_pairs.proofs.chunks.slices_at.Goals as goal

pub returns-clause-ok : goal.returns-clause-ok
returns-clause-ok g c =
    let is = c.requires.pair in
    let rows = c.args.range.now.pos in
    record {
      pos = refl;
      left_is = moved_slice (column.Chunked c.args.left.now) c.in_ok-front.front _ _ rows.start rows.end is.left.start is.left.end c.in_ok-front.ensures.ok;
      right_is = moved_slice (column.Chunked c.args.right.now) c.in_ok-back.back _ _ rows.start rows.end is.right.start is.right.end c.in_ok-back.ensures.ok;
    }
