use Rattle.std.proofs.Common.{◌∙◌, ap, sym}
use Rattle.vx_patches.specs.Places.{Index, rows_of}
use Rattle.vx_patches.specs.Search.{place_among}
use Rattle.vx_column.proofs.Excepts.{row_found, row_missing}
use Rattle.vx_column.proofs.excepted.Excepted+Column.place_of.Goals as goal

pub returns-in-Found-clause-place : goal.returns-in-Found-clause-place
returns-in-Found-clause-place g c =
    let at = ap (λ (i : Index). place_among (rows_of i) c.args.at) (sym c.index.ensures.value) ∙ sym c.search_index.ensures.place ∙ c.in-Found.is in
    row_found c.args.self.now c.args.at c.in-Found.place c.requires.sound c.requires.inside at

pub returns-in-NotFound-clause-place : goal.returns-in-NotFound-clause-place
returns-in-NotFound-clause-place g c =
    let at = ap (λ (i : Index). place_among (rows_of i) c.args.at) (sym c.index.ensures.value) ∙ sym c.search_index.ensures.place ∙ c.in-NotFound.is in
    row_missing c.args.self.now c.args.at c.in-NotFound.field-0 c.requires.sound c.requires.inside at
