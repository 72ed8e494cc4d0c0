use Rattle.std.proofs.Common.{◌≡◌, ◌≤◌, map}
use Rattle.std.specs.List.{slice_range}
use Rattle.vx_bulk.specs.Selections.{overlaid}
use Rattle.vx_patch_flat.specs.Chunks.{pairs_in}
use Rattle.vx_patch_flat.proofs.chunk.patch_chunk.Given as goal

abbrev pub invariant-loop-place : goal.invariant-loop-place
invariant-loop-place g l = record {
  written : l.decoded_values
      ≡ overlaid l.fn.decoded_values (slice_range (pairs_in l.patches_offset l.chunk_idx (map g.I.UnsignedPType.number l.patches_indices) l.patches_values) l.first l.place);
  none : l.end ≤ l.first → l.place ≡ l.first;
}
