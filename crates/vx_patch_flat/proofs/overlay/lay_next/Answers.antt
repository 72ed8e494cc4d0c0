use Rattle.std.proofs.Common.{◌≡◌, ◌∙◌, ◌++◌, get_or, ap, arith}
use Rattle.std.specs.Prelude.{None}
use Rattle.std.specs.List.{slice_range}
use Rattle.vx_patches.specs.Pairs.{pairs_of, firsts}
use Rattle.vx_patch_flat.proofs.Laying.{laid_one}
use Rattle.vx_patch_flat.proofs.Pairs.{row_below, row_fits, place_fits, value_inside}
use Rattle.vx_patch_flat.proofs.overlay.lay_next.Goals as goal

pub append_into-requires-clause-inside : goal.append_into-requires-clause-inside
append_into-requires-clause-inside g c = omega (arith, c.row_at-row.ensures.row, row_below c.args.patches.now c.requires.sound c.args.place c.requires.inside, c.requires.long)

pub lay_value-requires-clause-inside : goal.lay_value-requires-clause-inside
lay_value-requires-clause-inside g c = value_inside c.args.patches.now c.requires.sound c.args.place c.requires.inside

pub lay_value-requires-clause-fits : goal.lay_value-requires-clause-fits
lay_value-requires-clause-fits g c = place_fits c.args.patches.now c.requires.sound c.args.place c.requires.inside

pub overflow_add-result : goal.overflow_add-result
overflow_add-result g c = omega (arith, c.row_at-row.ensures.row, row_fits c.args.patches.now c.requires.sound c.args.place c.requires.inside)

pub returns-clause-ok : goal.returns-clause-ok
returns-clause-ok g c =
    let o = c.args.patches.now in
    let base = c.args.base.now.rows in
    let row = get_or (firsts (pairs_of o)) c.args.place 0 in
    let mid = c.append_into.new.out in
    let front : mid ≡ c.args.rows.now ++ slice_range base c.args.from row = c.in_ok-append_into.ensures.ok ∙ ap (λ n. c.args.rows.now ++ slice_range base c.args.from n) c.row_at-row.ensures.row in
    laid_one c.args.rows.now mid c.lay_value.new.rows base o.values.rows c.args.from row c.args.place None front c.in_ok-lay_value.ensures.ok
    (value_inside o c.requires.sound c.args.place c.requires.inside)
