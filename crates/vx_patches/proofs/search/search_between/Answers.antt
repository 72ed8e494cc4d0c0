use Rattle.std.proofs.Common.{arith, ◌+◌, ◌-◌, ◌≤◌, get_or, ◌≢◌, sym, ◌∙◌}
use Rattle.vx_base.specs.Numbers.{numbers_of}
use Rattle.vx_search.specs.Places.{search_bound}
use Rattle.vx_patches.proofs.Searches.{found, missing_from, rounds_more, rounds_within}
use Rattle.vx_patches.proofs.search.search_between.Goals as goal
use Rattle.vx_patches.proofs.search.search_between.Goals.{else-place-end-via-then-place-end+else-number_at-value, else-place-end-via-else-place-end}

pub returns-then-number_at-value-clause-place : goal.returns-then-number_at-value-clause-place
returns-then-number_at-value-clause-place g c =
    found c.args.value (numbers_of c.args.column.now.rows) c.requires.rising c.first_from-place.result
    (omega (arith, c.if-place-end.true, c.requires.between.inside)) (sym c.number_at.ensures.value ∙ c.if-number_at-value.true)

pub returns-then-number_at-value-clause-rise : goal.returns-then-number_at-value-clause-rise
returns-then-number_at-value-clause-rise g c =
    omega (arith, c.number_at.ensures.cost, c.first_from-place.ensures.rise, rounds_more (c.args.end - c.args.start) (omega (arith, c.if-place-end.true, c.first_from-place.ensures.from)))

pub returns-clause-place : goal.returns-clause-place
returns-clause-place g c =
    missing_from c.args.value (numbers_of c.args.column.now.rows) c.requires.rising c.args.start c.args.end c.first_from-place.result c.requires.between c.first_from-place.ensures.within c.first_from-place.ensures.below c.first_from-place.ensures.above
    (λ h. elim c.else-place-end.branch as (λ _. get_or (numbers_of c.args.column.now.rows) c.first_from-place.result 0 ≢ c.args.value) [
      | else-place-end-via-then-place-end+else-number_at-value w ↦ λ same. w.if-number_at-value.false (w.number_at.ensures.value ∙ same)
      | else-place-end-via-else-place-end w ↦ absurd (omega (arith, h, w.if-place-end.false))
    ])

pub returns-clause-rise : goal.returns-clause-rise
returns-clause-rise g c = elim c.else-place-end.branch as (λ _. c.else-place-end.steps ≤ c.args.steps.now + search_bound (c.args.end - c.args.start)) [
  | else-place-end-via-then-place-end+else-number_at-value w ↦
      omega (arith, w.steps-is, w.number_at.ensures.cost, c.first_from-place.ensures.rise, rounds_more (c.args.end - c.args.start) (omega (arith, w.if-place-end.true, c.first_from-place.ensures.from)))
  | else-place-end-via-else-place-end w ↦ omega (arith, w.steps-is, c.first_from-place.ensures.rise, rounds_within (c.args.end - c.args.start))
]
