use Rattle.std.proofs.Common.{take}
use Rattle.std.specs.List.{All}
use Rattle.vx_pairs.proofs.RowsFit.{RowsFit}
use Rattle.vx_pairs.proofs.flat.+each_fits.Given as goal

abbrev pub invariant-each_of_chunks_fits-loop-chunk : goal.invariant-each_of_chunks_fits-loop-chunk
invariant-each_of_chunks_fits-loop-chunk l = All RowsFit (take l.chunk-index l.chunk-items)

abbrev pub invariant-each_of_values_fits-loop-values : goal.invariant-each_of_values_fits-loop-values
invariant-each_of_values_fits-loop-values l = All RowsFit (take l.values-index l.values-items)
