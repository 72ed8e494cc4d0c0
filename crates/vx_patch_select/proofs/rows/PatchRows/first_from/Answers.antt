use Rattle.std.proofs.Common.{◌∙◌, ap, sym, arith}
use Rattle.vx_base.specs.Numbers.{numbers_of}
use Rattle.vx_base.specs.Checks.{count_below}
use Rattle.vx_patches.specs.Places.{Index, rows_of}
use Rattle.vx_patches.proofs.Counts.{above_first, count-rows}
use Rattle.vx_patch_select.proofs.rows.PatchRows.first_from.Goals as goal

pub first_index-requires-clause-start : goal.first_index-requires-clause-start
first_index-requires-clause-start g c =
    let s = c.self.invariant in
    let xs = numbers_of c.self.inside.indices.now.rows in
    omega (
      arith,
      c.requires.start,
      ap (λ (n : Index). count_below c.args.row (rows_of n)) c.self.view_is,
      count-rows c.args.row c.self.inside.offset xs (above_first c.self.inside.offset xs s.rising s.above),
    )

pub returns-clause-first : goal.returns-clause-first
returns-clause-first g c =
    let s = c.self.invariant in
    let xs = numbers_of c.self.inside.indices.now.rows in
    c.first_index.ensures.first ∙ sym (count-rows c.args.row c.self.inside.offset xs (above_first c.self.inside.offset xs s.rising s.above))
    ∙ ap (λ (n : Index). count_below c.args.row (rows_of n)) c.self.view_is
