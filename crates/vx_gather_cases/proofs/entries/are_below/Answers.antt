use Rattle.std.proofs.Common.{ℕ, ◌<◌, List, length, arith, subst, slice_index}
use Rattle.std.specs.List.{All}
use Rattle.std.proofs.lemmas.List.{get_or_default, take_all}
use Rattle.vx_interleave_gather.proofs.Fitting.{all_more}
use Rattle.vx_gather_cases.proofs.entries.are_below.Goals as goal

pub loop-row-preserved : goal.loop-row-preserved
loop-row-preserved c =
    let kept : List ℕ = c.args.kept.now in
    let i : ℕ = c.loop-row.row-index in
    let inside : i < length kept = omega arith in
    let below : slice_index kept i < c.args.len = omega arith in
    all_more (λ (row : ℕ). row < c.args.len) kept i (slice_index kept i) inside (get_or_default kept i 0 (slice_index kept i) inside) c.loop-row.invariant below

pub returns : goal.returns
returns c = λ _. subst (All (λ (row : ℕ). row < c.args.len)) (take_all c.loop-row.row-index c.args.kept.now (omega arith)) c.loop-row.invariant
