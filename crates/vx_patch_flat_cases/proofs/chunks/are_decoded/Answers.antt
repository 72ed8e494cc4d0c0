use Rattle.std.proofs.Common.{ℕ, ◌≡◌, ◌<◌, ◌≤◌, ◌∙◌, inl, inr, length, get_or, map, ap, sym, arith}
use Rattle.std.proofs.lemmas.Bool.{cases_lt}
use Rattle.std.proofs.lemmas.List.{get_or-map}
use Rattle.vx_patch_flat.specs.Chunks.{IsDecoded}
use Rattle.vx_patch_flat_cases.proofs.chunks.are_decoded.Goals as goal

pub loop-place-preserved : goal.loop-place-preserved
loop-place-preserved g c = λ k a b.
    let number = g.I.UnsignedPType.number in
    let xs = c.args.indices.now in
    let place = c.loop-place.place in
    elim (cases_lt k place) as (λ _. IsDecoded c.args.offset c.args.chunk c.args.len (get_or (map number xs) k 0)) [
      | inl early ↦ c.loop-place.invariant k a early
      | inr late ↦
          let same : k ≡ place = omega arith in
          let inside : place < length xs = omega (arith, c.requires.inside) in
          let at : get_or (map number xs) k 0 ≡ c.to_usize.result =
          ap (λ (n : ℕ). get_or (map number xs) n 0) same
          ∙ get_or-map number xs place c.index-indices-place.result 0 inside
          ∙ sym (c.to_usize.ensures ∙ ap number c.index-indices-place.is) in
          let from = c.is_decoded.ensures.from c.if-not-is_decoded.false in
          let below = c.is_decoded.ensures.below c.if-not-is_decoded.false in
          record { from = omega (arith, at, from, c.chunk_range-start.ensures.start); below = omega (arith, at, below, c.chunk_range-start.ensures.start) }
    ]

pub returns : goal.returns
returns g c = λ yes k a b. c.loop-place.invariant k a (omega arith)
