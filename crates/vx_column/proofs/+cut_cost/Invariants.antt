use Rattle.std.proofs.Common.{◌≡◌, ◌-◌, ◌^◌, min, map, take}
use Rattle.vx_column.specs.Columns.{cut_cost}
use Rattle.vx_job.specs.Rows.{greatest}
use Rattle.vx_column.proofs.+cut_cost.Given as goal

abbrev pub invariant-chunked::Chunked+Column::cut_cost-loop-chunk : goal.invariant-chunked::Chunked+Column::cut_cost-loop-chunk
invariant-chunked::Chunked+Column::cut_cost-loop-chunk l = l.greatest ≡ min (greatest (map cut_cost (take l.chunk-index l.chunk-items))) (2 ^ 64 - 1)
