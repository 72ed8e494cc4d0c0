use Rattle.std.proofs.Common.{◌∙◌, sym}
use Rattle.vx_column.specs.declared.column.Column.TheVariants as column
use Rattle.vx_column.proofs.Layers.{type_chunked}
use Rattle.vx_column.proofs.Cuts.{empty_slice}
use Rattle.vx_column.proofs.chunked.Chunked+Column.none.Goals as goal

pub returns-clause-ok : goal.returns-clause-ok
returns-clause-ok c at =
    empty_slice (column.Chunked c.args.self.now) c.in_ok-rows.rows c.in_ok-dtype.dtype at c.in_ok-rows.ensures.ok c.in_ok-rows.ensures.fits (c.in_ok-dtype.ensures.ok ∙ sym (type_chunked c.args.self.now))
