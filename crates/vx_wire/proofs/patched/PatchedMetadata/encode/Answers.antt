use Rattle.std.proofs.Common.{◌≡◌, arith, rules}
use Rattle.vx_wire.specs.Messages.{AreLanes, lanes_bytes}
use Rattle.vx_wire.proofs.RoundTrip.{lanes_read_back}
use Rattle.vx_wire.proofs.patched.PatchedMetadata.encode.Goals as goal

pub returns-clause-says : goal.returns-clause-says
returns-clause-says c =
    let m = c.args.self.now in
    let fits : AreLanes m = record { n_patches = omega arith; n_lanes = omega arith; offset = omega arith } in
    let bytes : c.from_vec.result ≡ lanes_bytes m = search rules in
    rw bytes (lanes_read_back m fits)
