use Rattle.std.proofs.Common.{ℕ, ◌≡◌, ◌<◌, ◌≤◌, ◌∙◌, ◌-◌, length, get_or, map, ap, sym, arith}
use Rattle.std.proofs.lemmas.List.{length-map, get_or-map}
use Rattle.vx_bulk.specs.Selections.{overlaid}
use Rattle.vx_patch_flat.specs.Chunks.{place_at, place_behind, pairs_in}
use Rattle.vx_patch_flat.proofs.Writing.{written_next, length_pairs, pair_at, behind_le, same_range}
use Rattle.vx_patch_flat.proofs.chunk.patch_chunk.Goals as goal

pub write-requires-clause-from : goal.write-requires-clause-from
write-requires-clause-from g c =
    let number = g.I.UnsignedPType.number in
    let xs = c.args.patches_indices.now in
    let offsets = map g.C.UnsignedPType.number c.args.chunk_offsets_slice.now in
    let w = c.args.offset_within_chunk in
    let chunk = c.args.chunk_idx in
    let place = c.loop-place.place in
    let long : length (map number xs) ≡ length xs = length-map xs number in
    let end : c.chunk_places-first.result.1 ≡ place_behind offsets w chunk (length xs) = c.chunk_places-first.ensures.end in
    let inside : place < length xs = omega (arith, behind_le offsets w chunk (length xs)) in
    let low : place_at offsets w chunk ≤ place = omega (arith, c.chunk_places-first.ensures.first) in
    let high : place < place_behind offsets w chunk (length (map number xs)) = omega (arith, ap (λ (n : ℕ). place_behind offsets w chunk n) long) in
    let at : c.to_usize-index.result ≡ get_or (map number xs) place 0 =
    c.to_usize-index.ensures ∙ ap number c.index-patches_indices-place.is ∙ sym (get_or-map number xs place c.index-patches_indices-place.result 0 inside) in
    let told = c.requires.decoded place low high in
    omega (arith, told.from, at, c.chunk_range-start.ensures.start)

pub write-requires-clause-below : goal.write-requires-clause-below
write-requires-clause-below g c =
    let number = g.I.UnsignedPType.number in
    let xs = c.args.patches_indices.now in
    let offsets = map g.C.UnsignedPType.number c.args.chunk_offsets_slice.now in
    let w = c.args.offset_within_chunk in
    let chunk = c.args.chunk_idx in
    let place = c.loop-place.place in
    let long : length (map number xs) ≡ length xs = length-map xs number in
    let end : c.chunk_places-first.result.1 ≡ place_behind offsets w chunk (length xs) = c.chunk_places-first.ensures.end in
    let inside : place < length xs = omega (arith, behind_le offsets w chunk (length xs)) in
    let low : place_at offsets w chunk ≤ place = omega (arith, c.chunk_places-first.ensures.first) in
    let high : place < place_behind offsets w chunk (length (map number xs)) = omega (arith, ap (λ (n : ℕ). place_behind offsets w chunk n) long) in
    let at : c.to_usize-index.result ≡ get_or (map number xs) place 0 =
    c.to_usize-index.ensures ∙ ap number c.index-patches_indices-place.is ∙ sym (get_or-map number xs place c.index-patches_indices-place.result 0 inside) in
    let told = c.requires.decoded place low high in
    omega (arith, told.below, at, c.chunk_range-start.ensures.start, c.loop-place.auto.decoded_values)

pub loop-place-preserved : goal.loop-place-preserved
loop-place-preserved g c =
    let number = g.I.UnsignedPType.number in
    let xs = c.args.patches_indices.now in
    let indices = map number xs in
    let values = c.args.patches_values.now in
    let offsets = map g.C.UnsignedPType.number c.args.chunk_offsets_slice.now in
    let w = c.args.offset_within_chunk in
    let chunk = c.args.chunk_idx in
    let offset = c.args.patches_offset in
    let place = c.loop-place.place in
    let first = c.chunk_places-first.result.0 in
    let index = c.to_usize-index.result in
    let start = c.chunk_range-start.result.start in
    let v = c.index-patches_values-place.result in
    let ps = pairs_in offset chunk indices values in
    let long : length indices ≡ length xs = length-map xs number in
    let alike : length indices ≡ length values = long ∙ c.requires.alike in
    let end : c.chunk_places-first.result.1 ≡ place_behind offsets w chunk (length xs) = c.chunk_places-first.ensures.end in
    let inside : place < length xs = omega (arith, behind_le offsets w chunk (length xs)) in
    let at : index ≡ get_or indices place 0 =
    c.to_usize-index.ensures ∙ ap number c.index-patches_indices-place.is ∙ sym (get_or-map number xs place c.index-patches_indices-place.result 0 inside) in
    let from : first ≤ place = omega arith in
    record {
      written =
          c.write.ensures
          ∙ written_next c.args.decoded_values.now c.loop-place.decoded_values ps first place (index - offset - start) v c.loop-place.invariant.written from
          (omega (arith, length_pairs offset chunk indices values alike))
          (pair_at offset chunk indices values place index (index - offset - start) v alike (omega arith) at c.index-patches_values-place.is (ap (λ (n : ℕ). index - offset - n) c.chunk_range-start.ensures.start));
      none = λ h. absurd (omega arith);
    }

pub returns : goal.returns
returns g c =
    let number = g.I.UnsignedPType.number in
    let xs = c.args.patches_indices.now in
    let indices = map number xs in
    let values = c.args.patches_values.now in
    let offsets = map g.C.UnsignedPType.number c.args.chunk_offsets_slice.now in
    let w = c.args.offset_within_chunk in
    let chunk = c.args.chunk_idx in
    let offset = c.args.patches_offset in
    let place = c.loop-place.place in
    let first = c.chunk_places-first.result.0 in
    let last = c.chunk_places-first.result.1 in
    let ps = pairs_in offset chunk indices values in
    let long : length indices ≡ length xs = length-map xs number in
    let all : length ps ≡ length xs = length_pairs offset chunk indices values (long ∙ c.requires.alike) ∙ long in
    let end : last ≡ place_behind offsets w chunk (length ps) = c.chunk_places-first.ensures.end ∙ ap (λ (n : ℕ). place_behind offsets w chunk n) (sym all) in
    c.loop-place.invariant.written
    ∙ ap (overlaid c.args.decoded_values.now)
    (same_range ps first place (place_at offsets w chunk) (place_behind offsets w chunk (length ps)) last c.chunk_places-first.ensures.first end (λ h. omega arith) c.loop-place.invariant.none)
