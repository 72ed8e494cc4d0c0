use Rattle.std.proofs.Common.{◌∙◌, ℕ, List, sym, ap}
use Rattle.std.proofs.lemmas.Slice.Zip.{firsts-zip}
use Rattle.vx_patches.specs.Places.{rows_of}
use Rattle.vx_patches.specs.Search.{place_among}
use Rattle.vx_patches.proofs.Columns.{rows_number}
use Rattle.vx_patch_select.proofs.Taking.{place_found}
use Rattle.vx_patch_select.proofs.lookup.PatchesLookup.place_of.Goals as goal

pub returns-clause-place : goal.returns-clause-place
returns-clause-place g c =
    let o = c.args.self.now in
    let sound = c.array_len-row_count.ensures.sound in
    place_found o.index sound.index c.args.row c.search_index.result c.to_found.result
    (c.search_index.ensures.place ∙ ap (λ (ns : List ℕ). place_among ns c.args.row) (firsts-zip (rows_of o.index) o.values.rows (sound.values ∙ sym (rows_number o.index)))) c.to_found.ensures
