use Rattle.std.proofs.Common.{ℕ, length, map, ap, arith}
use Rattle.std.proofs.lemmas.List.{length-map}
use Rattle.vx_patch_flat.specs.Chunks.{place_behind}
use Rattle.vx_patch_flat.proofs.Writing.{behind_le}
use Rattle.vx_patch_flat_cases.proofs.chunks.write.Goals as goal

pub are_decoded-requires-clause-inside : goal.are_decoded-requires-clause-inside
are_decoded-requires-clause-inside g c =
    omega (arith, c.chunk_places-first.ensures.end, behind_le (map g.C.UnsignedPType.number c.args.chunk_offsets.now) c.args.within c.args.chunk (length c.args.indices.now))

pub patch_chunk-requires-clause-decoded : goal.patch_chunk-requires-clause-decoded
patch_chunk-requires-clause-decoded g c = λ place low high.
    let offsets = map g.C.UnsignedPType.number c.args.chunk_offsets.now in
    let long = length-map c.args.indices.now g.I.UnsignedPType.number in
    c.are_decoded.ensures c.if-not-are_decoded.false place (omega (arith, c.chunk_places-first.ensures.first))
    (omega (arith, c.chunk_places-first.ensures.end, ap (λ (n : ℕ). place_behind offsets c.args.within c.args.chunk n) long))
