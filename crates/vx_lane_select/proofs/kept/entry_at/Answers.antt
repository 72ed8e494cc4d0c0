use Rattle.std.proofs.Common.{ℕ, ◌-◌, List, Err, arith}
use Rattle.std.proofs.lemmas.List.Sorted.{searched}
use Rattle.vx_lane_select.proofs.Under.{never_there, not_falling}
use Rattle.vx_lane_select.proofs.kept.entry_at.Goals as goal

pub returns-in-Err-clause-none : goal.returns-in-Err-clause-none
returns-in-Err-clause-none c =
    let kept : List ℕ = c.args.kept.now in
    let x : ℕ = c.args.place - c.offset-offset.result in
    let r = searched kept x (Err c.in-Err.field-0) c.in-Err.ensures.position (not_falling kept c.requires.rising) in
    λ k h e. never_there kept c.in-Err.field-0 x k r.1 r.2 h (omega (arith, e, c.if-place-offset.false, c.offset-offset.ensures.value))
