use Rattle.std.proofs.Common.{arith, inr, ◌≡◌, ◌<◌, None, ℕ, List, Option, length, get_or}
use Rattle.std.proofs.lemmas.Result.{err_from_is_err_and}
use Rattle.std.proofs.lemmas.List.Elements.{All-more, Contains-get_or}
use Rattle.vx_chunk_plans.specs.Takes.{IsWithin}
use Rattle.vx_chunk_plans.proofs.take.check_indices.Goals as goal

pub loop-at-preserved : goal.loop-at-preserved
loop-at-preserved c =
    let indices : List (Option ℕ) = c.args.indices.now in
    All-more (IsWithin c.args.len) indices c.loop-at.at-index None (omega arith) c.loop-at.invariant c.in_ok-check_index.ensures.inside

pub returns-in_err-check_index-clause-err : goal.returns-in_err-check_index-clause-err
returns-in_err-check_index-clause-err c =
    let indices : List (Option ℕ) = c.args.indices.now in
    let k = c.loop-at.at-index in
    let inside : k < length indices = omega arith in
    let p = err_from_is_err_and c.from_residual.result c.from_residual.ensures.1 in
    rw (p.1, p.2) (inr (get_or indices k None, (Contains-get_or indices k None inside, c.in_err-check_index.ensures.err)))
