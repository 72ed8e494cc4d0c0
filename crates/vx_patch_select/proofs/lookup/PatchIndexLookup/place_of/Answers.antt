use Rattle.vx_patch_select.proofs.Taking.{place_found}
use Rattle.vx_patch_select.proofs.lookup.PatchIndexLookup.place_of.Goals as goal

pub returns-clause-place : goal.returns-clause-place
returns-clause-place g c = place_found c.args.self.now c.array_len-row_count.ensures.sound c.args.row c.search_index.result c.to_found.result c.search_index.ensures.place c.to_found.ensures
