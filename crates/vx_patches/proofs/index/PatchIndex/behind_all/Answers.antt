use Rattle.std.proofs.Common.{arith, sym, ap, ◌∙◌, ◌+◌, ◌≤◌}
use Rattle.vx_base.proofs.CheckLemmas.{length_numbers}
use Rattle.vx_search.specs.declared.result.SearchResult.TheVariants.{NotFound}
use Rattle.vx_patches.specs.Places.{Index, indices_of, rows_of}
use Rattle.vx_patches.specs.Search.{place_among}
use Rattle.vx_patches.specs.Views.{index_of}
use Rattle.vx_patches.proofs.Searches.{place_rows, past_all}
use Rattle.vx_patches.proofs.Counts.{above_first}
use Rattle.vx_patches.proofs.index.PatchIndex.behind_all.Goals as goal

pub returns : goal.returns
returns c =
    let i = c.self.inside in
    let xs = indices_of (index_of i) in
    let s = c.self.invariant in
    let past : i.array_len ≤ c.args.index = omega (arith, c.requires, ap (λ (n : Index). n.len) c.self.view_is) in
    ap NotFound (c.len.ensures ∙ sym (length_numbers i.indices.rows)) ∙ past_all (c.args.index + i.offset) xs s.rising (λ some. omega (arith, s.below, past))
    ∙ sym (place_rows c.args.index i.offset xs (above_first i.offset xs s.rising s.above)) ∙ ap (λ (n : Index). place_among (rows_of n) c.args.index) c.self.view_is
