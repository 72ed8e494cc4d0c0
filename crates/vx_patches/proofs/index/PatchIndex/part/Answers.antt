use Rattle.std.proofs.Common.{arith, ◌≡◌, ◌+◌, ◌-◌}
use Rattle.std.specs.Prelude.{Some, None}
use Rattle.vx_base.specs.Numbers.{numbers_of}
use Rattle.vx_base.proofs.CheckLemmas.{length_numbers}
use Rattle.vx_patches.specs.Places.{indices_of}
use Rattle.vx_patches.specs.Slices.{IsSliceOf, chunk_from}
use Rattle.vx_patches.specs.Views.{index_of}
use Rattle.vx_patches.proofs.Chunks.{Cut}
use Rattle.vx_patches.proofs.Slices.{Ends, index_at, ends_at, slice_seen, cut_at, offsets_seen, within_seen, none_after}
use Rattle.vx_patches.proofs.index.PatchIndex.part.Given as given
use Rattle.vx_patches.proofs.index.PatchIndex.part.Goals as goal

pub window-requires-clause-order : goal.window-requires-clause-order
window-requires-clause-order g c =
    let ends : Ends (index_of c.self.inside) c.args.start c.args.end c.args.first c.args.last = ends_at (index_of c.self.inside) c.args.self.now c.self.view_is c.self.invariant c.args.start c.args.end c.args.first c.args.last c.requires.ordered c.requires.from c.requires.to c.requires.some in
    omega (arith, ends.apart)

none_here : (g : given.Over) (c : goal.In_default g) → IsSliceOf c.args.self.now (index_at (c.args.end - c.args.start) (c.self.inside.offset + c.args.start) c.in_ok-indices.indices None 0) c.args.start c.args.end c.args.first c.args.last
none_here g c =
    let i = c.self.inside in
    let after = none_after i.chunk_offsets i.within i.offset c.args.start c.args.end c.args.first c.in_default.is in
    slice_seen (index_of i) c.args.self.now c.self.view_is c.self.invariant c.args.start c.args.end c.args.first c.args.last c.requires.ordered c.requires.inside c.requires.from c.requires.to c.requires.some
    c.in_ok-indices.indices None 0 c.in_ok-indices.ensures.ok after.0 after.1

pub invariant_of-result : goal.invariant_of-result
invariant_of-result g c = (none_here g c).sound

pub returns-in_default-clause-ok : goal.returns-in_default-clause-ok
returns-in_default-clause-ok g c = none_here g c

the_cut : (g : given.Over) (c : goal.After-cut_within-arg-1 g) → Cut c.self.inside.array_len c.self.inside.offset (indices_of (index_of c.self.inside)) (numbers_of c.in-Some.offsets.rows) c.self.inside.within c.args.start c.args.end c.args.first c.args.last
the_cut g c =
    cut_at (index_of c.self.inside) c.args.self.now c.self.view_is c.self.invariant c.args.start c.args.end c.args.first c.args.last c.requires.ordered c.requires.inside c.requires.from c.requires.to c.requires.some c.in-Some.offsets c.in-Some.is

pub cut_within-within-requires-clause-chunk : goal.cut_within-within-requires-clause-chunk
cut_within-within-requires-clause-chunk g c = omega (arith, (the_cut g c).at, length_numbers c.in-Some.offsets.rows)

pub cut_within-within-requires-clause-base : goal.cut_within-within-requires-clause-base
cut_within-within-requires-clause-base g c = (the_cut g c).base

pub cut_within-within-requires-clause-uncut : goal.cut_within-within-requires-clause-uncut
cut_within-within-requires-clause-uncut g c = (the_cut g c).uncut

the_part : (g : given.Over) (c : goal.After-cut_within-within g) →
    IsSliceOf c.args.self.now (index_at (c.args.end - c.args.start) (c.self.inside.offset + c.args.start) c.in_ok-indices.indices (Some c.in_ok-chunk_offsets.chunk_offsets) c.cut_within-within.result)
    c.args.start c.args.end c.args.first c.args.last
the_part g c =
    let i = c.self.inside in
    let end : c.div_ceil.result ≡ chunk_from i.offset c.args.end = omega (arith, c.div_ceil.ensures) in
    slice_seen (index_of i) c.args.self.now c.self.view_is c.self.invariant c.args.start c.args.end c.args.first c.args.last c.requires.ordered c.requires.inside c.requires.from c.requires.to c.requires.some
    c.in_ok-indices.indices (Some c.in_ok-chunk_offsets.chunk_offsets) c.cut_within-within.result c.in_ok-indices.ensures.ok
    (offsets_seen i.chunk_offsets c.in-Some.offsets i.offset c.args.start c.args.end c.div_ceil.result c.in-Some.is end c.in_ok-chunk_offsets.chunk_offsets c.in_ok-chunk_offsets.ensures.ok)
    (within_seen i.chunk_offsets c.in-Some.offsets i.within i.offset c.args.start c.args.first c.cut_within-within.result c.in-Some.is c.cut_within-within.ensures.within)

pub invariant_of-result-2 : goal.invariant_of-result-2
invariant_of-result-2 g c = (the_part g c).sound

pub returns-clause-ok : goal.returns-clause-ok
returns-clause-ok g c = the_part g c
