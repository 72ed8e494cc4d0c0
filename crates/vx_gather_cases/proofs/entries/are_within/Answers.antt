use Rattle.std.proofs.Common.{ℕ, ◌<◌, List, length, arith, subst, get_or, Option, None}
use Rattle.std.specs.List.{All}
use Rattle.std.proofs.lemmas.List.{get_or_default, take_all}
use Rattle.vx_lane_select.specs.Selected.{IsWithin}
use Rattle.vx_interleave_gather.proofs.Fitting.{all_more}
use Rattle.vx_gather_cases.proofs.entries.are_within.Goals as goal

pub loop-row-preserved : goal.loop-row-preserved
loop-row-preserved c =
    let taken : List (Option ℕ) = c.args.taken.now in
    let i : ℕ = c.loop-row.row-index in
    let inside : i < length taken = omega arith in
    all_more (IsWithin c.args.len) taken i (get_or taken i None) inside (get_or_default taken i None (get_or taken i None) inside) c.loop-row.invariant (c.is_within.ensures c.if-not-is_within.false)

pub returns : goal.returns
returns c = λ _. subst (All (IsWithin c.args.len)) (take_all c.loop-row.row-index c.args.taken.now (omega arith)) c.loop-row.invariant
