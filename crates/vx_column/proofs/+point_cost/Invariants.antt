use Rattle.std.proofs.Common.{◌≡◌, ◌-◌, ◌^◌, min, map, take}
use Rattle.vx_column.specs.Columns.{point_cost}
use Rattle.vx_job.specs.Rows.{greatest}
use Rattle.vx_column.proofs.+point_cost.Given as goal

abbrev pub invariant-chunked::Chunked+Column::point_cost-loop-chunk : goal.invariant-chunked::Chunked+Column::point_cost-loop-chunk
invariant-chunked::Chunked+Column::point_cost-loop-chunk l = l.greatest ≡ min (greatest (map point_cost (take l.chunk-index l.chunk-items))) (2 ^ 64 - 1)

abbrev pub invariant-interleave::Interleave+Column::point_cost-loop-value : goal.invariant-interleave::Interleave+Column::point_cost-loop-value
invariant-interleave::Interleave+Column::point_cost-loop-value l = l.greatest ≡ min (greatest (map point_cost (take l.value-index l.value-items))) (2 ^ 64 - 1)
