use Rattle.std.proofs.Common.{◌≡◌, ℕ, List, ◌+◌, ◌*◌, ◌≤◌, subst, arith, ap, ◌∙◌, length}
use Rattle.std.proofs.lemmas.List.{length-map}
use Rattle.vx_search.specs.Places.{search_bound}
use Rattle.vx_base.specs.Ranges.{ends_cut}
use Rattle.vx_chunks.specs.Bounds.{total}
use Rattle.vx_chunks.specs.Plans.{IsPlanOf}
use Rattle.vx_column.specs.Columns.{len_of}
use Rattle.vx_column.proofs.Cuts.{total_is}
use Rattle.vx_column.proofs.chunked.Chunked+Column.plan_slice.Goals as goal

pub plan_slice-requires-clause-inside : goal.plan_slice-requires-clause-inside
plan_slice-requires-clause-inside g c = omega (arith, ap total c.boundaries.ensures, total_is c.args.self.now)

pub returns-clause-plan : goal.returns-clause-plan
returns-clause-plan g c = subst (λ (lens : List ℕ). IsPlanOf lens c.args.start c.args.end c.plan_slice.result) c.boundaries.ensures c.plan_slice.ensures.plan

pub returns-clause-rise : goal.returns-clause-rise
returns-clause-rise g c =
    let self = c.args.self.now in
    let n : length c.boundaries.result.now ≡ length self.chunks = ap length c.boundaries.ensures ∙ length-map self.chunks len_of in
    subst (λ n. c.plan_slice.new.steps ≤ c.args.steps.now + ends_cut c.args.start c.args.end n * search_bound (length self.chunks + 1)) (ap total c.boundaries.ensures ∙ total_is self)
    (subst (λ k. c.plan_slice.new.steps ≤ c.args.steps.now + ends_cut c.args.start c.args.end (total c.boundaries.result.now) * search_bound (k + 1)) n c.plan_slice.ensures.rise)
