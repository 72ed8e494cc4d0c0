use Rattle.std.proofs.Common.{arith, ◌≡◌, ◌∙◌, ap, take, drop}
use Rattle.vx_masks.specs.Bits.{places_of}
use Rattle.vx_masks.specs.Masks.{bits_of}
use Rattle.vx_chunk_plans.proofs.Keeping.{whole_places}
use Rattle.vx_chunk_plans.proofs.filter.indices_in.Goals as goal

pub returns-clause-whole : goal.returns-clause-whole
returns-clause-whole c =
    let bits = bits_of c.args.mask.now in
    let done : c.loop-i.i ≡ c.args.len = omega arith in
    λ all. whole_places bits c.args.start c.args.len c.loop-i.indices.items c.requires (c.loop-i.invariant.places ∙ ap (λ n. places_of (take n (drop c.args.start bits))) done) all
