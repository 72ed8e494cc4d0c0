use Rattle.std.proofs.Common.{arith, ap, sym, ◌∙◌, ◌<◌, ◌+◌, ◌%◌, ◌/◌, refl}
use Rattle.vx_base.proofs.CheckLemmas.{length_numbers}
use Rattle.vx_patches.specs.Places.{Index, indices_of}
use Rattle.vx_patches.specs.Views.{index_of}
use Rattle.vx_patches.proofs.Searches.{near, few, InChunk}
use Rattle.vx_patches.proofs.index.PatchIndex.places_near.Given as given
use Rattle.vx_patches.proofs.index.PatchIndex.places_near.Goals as goal

the_chunk : (g : given.Over) (c : goal.After-chunk_places g) → InChunk (indices_of (index_of c.self.inside)) (c.args.index + c.self.inside.offset) c.chunk_places.result.0 c.chunk_places.result.1
the_chunk g c =
    let row : c.args.index < c.self.inside.array_len = omega (arith, c.requires, ap (λ (i : Index). i.len) c.self.view_is) in
    let long = length_numbers c.in-Some.offsets.rows in
    let count = length_numbers c.self.inside.indices.rows in
    near (index_of c.self.inside) c.self.invariant c.in-Some.offsets c.args.index ((c.args.index + c.self.inside.offset % 1024) / 1024) c.chunk_places.result.0 c.chunk_places.result.1
    c.in-Some.is row refl
    (omega (arith, c.chunk_places.ensures.start, c.len-count.ensures, count)) (λ h. omega (arith, c.chunk_places.ensures.end (omega arith), c.len-count.ensures, count)) (λ h. omega (arith, c.chunk_places.ensures.last (omega arith), c.len-count.ensures, count))

pub returns-clause-between : goal.returns-clause-between
returns-clause-between g c = rw (← c.self.view_is) (the_chunk g c).between

pub returns-clause-few : goal.returns-clause-few
returns-clause-few g c = few _ c.in-Some.offsets _ _ (sym (ap (λ (i : Index). i.chunk_offsets) c.self.view_is) ∙ c.in-Some.is) (the_chunk g c).few
