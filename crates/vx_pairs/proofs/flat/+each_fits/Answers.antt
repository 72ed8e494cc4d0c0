use Rattle.std.proofs.Common.{arith, sym, subst, ◌∙◌}
use Rattle.std.proofs.lemmas.List.{take_all}
use Rattle.std.specs.List.{All}
use Rattle.vx_column.proofs.Cuts.{all_more}
use Rattle.vx_base.specs.Column.{IsFlat}
use Rattle.vx_column.specs.Columns.{IsSound}
use Rattle.vx_pairs.proofs.RowsFit.{RowsFit, chunks_fit, lanes_fit, exceptions_fit, interleaved_fit}
use Rattle.vx_pairs.proofs.flat.+each_fits.Goals as goal

pub each_of_chunks_fits-loop-chunk-preserved : goal.each_of_chunks_fits-loop-chunk-preserved
each_of_chunks_fits-loop-chunk-preserved t c =
    all_more RowsFit c.children-chunk-items.result.now c.loop-chunk.chunk-index c.chunk-item.result (omega arith) c.chunk-item.is c.loop-chunk.invariant c.each_fits.ensures

pub each_of_chunks_fits-returns : goal.each_of_chunks_fits-returns
each_of_chunks_fits-returns t c =
    let all = take_all c.loop-chunk.chunk-index c.children-chunk-items.result.now (omega arith) ∙ c.children-chunk-items.ensures.value in
    chunks_fit c.args.array.now c.requires (subst (All RowsFit) all c.loop-chunk.invariant)

pub each_of_values_fits-loop-values-preserved : goal.each_of_values_fits-loop-values-preserved
each_of_values_fits-loop-values-preserved t c =
    all_more RowsFit c.children-values-items.result.now c.loop-values.values-index c.values-item.result (omega arith) c.values-item.is c.loop-values.invariant c.each_fits.ensures

pub each_of_values_fits-returns : goal.each_of_values_fits-returns
each_of_values_fits-returns t c =
    let all = take_all c.loop-values.values-index c.children-values-items.result.now (omega arith) ∙ c.children-values-items.ensures.value in
    interleaved_fit c.args.array.now c.requires (subst (All RowsFit) all c.loop-values.invariant)

pub each_fits-returns-in-Patched : goal.each_fits-returns-in-Patched
each_fits-returns-in-Patched t c =
    let is = c.in-Patched.is in
    subst RowsFit (sym is) (lanes_fit c.in-Patched.array (subst IsSound is c.requires) (subst IsFlat c.patch_values.ensures c.dtype-in-Patched.ensures.fits)
    (subst RowsFit c.inner.ensures.value c.each_fits.ensures))

pub each_fits-returns-in-Excepted : goal.each_fits-returns-in-Excepted
each_fits-returns-in-Excepted t c =
    let is = c.in-Excepted.is in
    subst RowsFit (sym is) (exceptions_fit c.in-Excepted.array (subst IsSound is c.requires) (subst RowsFit c.base.ensures.value c.each_fits-in-Excepted.ensures)
    (subst RowsFit c.values.ensures.value c.each_fits-in-Excepted-2.ensures))
