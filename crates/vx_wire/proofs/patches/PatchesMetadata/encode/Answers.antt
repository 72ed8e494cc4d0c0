use Rattle.std.proofs.Common.{◌≡◌, arith, rules}
use Rattle.vx_wire.specs.Messages.{ArePatches, patches_bytes}
use Rattle.vx_wire.proofs.RoundTrip.{patches_read_back}
use Rattle.vx_wire.proofs.patches.PatchesMetadata.encode.Goals as goal

pub returns-clause-says : goal.returns-clause-says
returns-clause-says c =
    let m = c.args.self.now in
    let fits : ArePatches m = record {
      len = rw (← c.self.view_is) (omega arith);
      offset = rw (← c.self.view_is) (omega arith);
      indices_type = rw (← c.self.view_is) (omega arith);
      chunk_offsets_len = rw (← c.self.view_is) (c.push_optional.ensures.in_range);
      chunk_offsets_type = rw (← c.self.view_is) (c.written_optional_type.ensures.in_range);
      offset_within_chunk = rw (← c.self.view_is) (c.push_optional-3.ensures.in_range);
    } in
    let bytes : c.from_vec.result ≡ patches_bytes m = search rules in
    rw bytes (patches_read_back m fits)
