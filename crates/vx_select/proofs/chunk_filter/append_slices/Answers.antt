use Rattle.std.proofs.Common.{sym, subst, ◌∙◌}
use Rattle.vx_column.specs.Columns.{len_of}
use Rattle.vx_select.specs.Spots.{AreBelow}
use Rattle.vx_select.proofs.Filtered.{ranges_below}
use Rattle.vx_select.proofs.chunk_filter.append_slices.Goals as goal

pub append_at-requires : goal.append_at-requires
append_at-requires g c =
    let len = len_of c.args.chunk.now in
    let slices = c.args.slices.now in
    record {
      sound = c.requires.sound;
      inside = subst (AreBelow len) (sym (c.as_slice.ensures.value ∙ c.in_ok-places.ensures.ok)) (ranges_below len slices c.requires.within);
    }
