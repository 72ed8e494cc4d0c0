use Rattle.std.proofs.Common.{◌≡◌, ◌+◌, ◌<◌, ◌∙◌, sym, ap, arith, None, Some}
use Rattle.std.specs.BTreeMap as tree
use Rattle.std.specs.Ordering.{nat_cmp}
use Rattle.vx_lanes.specs.Layouts.{exception_of, exceptions}
use Rattle.vx_lane_select.proofs.Places.{below_low}
use Rattle.vx_lane_select.proofs.Under.{entry_found, entry_stays}
use Rattle.vx_lane_select.proofs.taken.lay_at.Goals as goal

pub replace-requires : goal.replace-requires
replace-requires g c =
    let l = c.args.lanes.now in
    let key : tree.get nat_cmp c.args.by_place.now (c.offset.result + c.args.row) ≡ tree.get nat_cmp c.args.by_place.now (l.offset + c.args.row) = ap (λ n. tree.get nat_cmp c.args.by_place.now (n + c.args.row)) c.offset.ensures.value in
    let found : exception_of l c.args.row ≡ Some c.in-Some.exception.now = sym (c.in-Some.ensures.value ∙ key ∙ c.requires.places c.args.row c.requires.inside) in
    omega (arith, c.offset.ensures.layout.paired, below_low l (exceptions l) c.args.row c.in-Some.exception.now found)

pub returns-in-Some-clause-entry : goal.returns-in-Some-clause-entry
returns-in-Some-clause-entry g c =
    let l = c.args.lanes.now in
    let key : tree.get nat_cmp c.args.by_place.now (c.offset.result + c.args.row) ≡ tree.get nat_cmp c.args.by_place.now (l.offset + c.args.row) = ap (λ n. tree.get nat_cmp c.args.by_place.now (n + c.args.row)) c.offset.ensures.value in
    let found : exception_of l c.args.row ≡ Some c.in-Some.exception.now = sym (c.in-Some.ensures.value ∙ key ∙ c.requires.places c.args.row c.requires.inside) in
    c.replace.ensures.entry ∙ entry_found l c.args.row c.in-Some.exception.now c.args.entry.now c.offset.ensures.layout c.requires.inside found

pub returns-in-None-clause-entry : goal.returns-in-None-clause-entry
returns-in-None-clause-entry g c =
    let l = c.args.lanes.now in
    let key : tree.get nat_cmp c.args.by_place.now (c.offset.result + c.args.row) ≡ tree.get nat_cmp c.args.by_place.now (l.offset + c.args.row) = ap (λ n. tree.get nat_cmp c.args.by_place.now (n + c.args.row)) c.offset.ensures.value in
    let missed : exception_of l c.args.row ≡ None = sym (c.in-None.ensures.value ∙ key ∙ c.requires.places c.args.row c.requires.inside) in
    entry_stays l c.args.row c.args.entry.now c.offset.ensures.layout c.requires.inside missed
