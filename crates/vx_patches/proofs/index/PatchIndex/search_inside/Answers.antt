use Rattle.std.proofs.Common.{sym, ap, ◌∙◌}
use Rattle.vx_patches.specs.Places.{Index, indices_of, rows_of}
use Rattle.vx_patches.specs.Search.{place_among}
use Rattle.vx_patches.specs.Views.{index_of}
use Rattle.vx_patches.proofs.Searches.{place_rows}
use Rattle.vx_patches.proofs.Counts.{above_first}
use Rattle.vx_patches.proofs.index.PatchIndex.search_inside.Goals as goal

pub returns-clause-place : goal.returns-clause-place
returns-clause-place g c =
    let i = c.self.inside in
    let xs = indices_of (index_of i) in
    let s = c.self.invariant in
    c.search_between.ensures.place ∙ sym (place_rows c.args.index i.offset xs (above_first i.offset xs s.rising s.above)) ∙ ap (λ (n : Index). place_among (rows_of n) c.args.index) c.self.view_is
