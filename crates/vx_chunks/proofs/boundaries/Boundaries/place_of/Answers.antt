use Rattle.std.proofs.Common.{arith, ap, ◌≡◌, ◌-◌, length, take, get_or}
use Rattle.vx_chunks.specs.Bounds.{total}
use Rattle.vx_chunks.proofs.Sums.{total-last_or_none, begins_before, above_last}
use Rattle.vx_chunks.proofs.boundaries.Boundaries.place_of.Goals as goal

pub overflow_sub-result : goal.overflow_sub-result
overflow_sub-result g c =
    let before = begins_before c.args.self.now c.args.index c.chunk_after-after.result c.saturating_sub-chunk.result c.requires c.chunk_after-after.ensures.within c.chunk_after-after.ensures.below (omega arith) in
    omega (arith, before)

pub returns-clause-row : goal.returns-clause-row
returns-clause-row g c =
    let before = begins_before c.args.self.now c.args.index c.chunk_after-after.result c.saturating_sub-chunk.result c.requires c.chunk_after-after.ensures.within c.chunk_after-after.ensures.below (omega arith) in
    omega (arith, before)

pub returns-clause-inside : goal.returns-clause-inside
returns-clause-inside g c h =
    let lens = c.args.self.now in
    let after = c.chunk_after-after in
    let some = after.ensures.positive h in
    let within = after.ensures.within h in
    let same : c.saturating_sub-chunk.result ≡ after.result - 1 = omega arith in
    (omega arith, omega (arith, after.ensures.below h, above_last lens after.result c.args.index some within (after.ensures.above h), ap (λ k. total (take k lens)) same, ap (λ k. get_or lens k 0) same))

pub returns-clause-last : goal.returns-clause-last
returns-clause-last g c end =
    let lens = c.args.self.now in
    let past = c.chunk_after-after.ensures.last end in
    let same : c.saturating_sub-chunk.result ≡ length lens - 1 = omega arith in
    (same, omega (arith, total-last_or_none lens, ap (λ k. total (take k lens)) same, ap (λ k. get_or lens k 0) same))
