use Rattle.std.proofs.Common.{◌<◌, ◌≤◌, ◌-◌, arith, get_or}
use Rattle.vx_base.specs.Checks.{count_below}
use Rattle.vx_base.specs.Numbers.{numbers_of}
use Rattle.vx_base.proofs.CheckLemmas.{length_numbers}
use Rattle.vx_patches.proofs.Counts.{Rising-from_increasing, count_is}
use Rattle.vx_patches.proofs.Cuts.{too_many, too_few, more_than, less_than, as_many}
use Rattle.vx_patches.proofs.rules.is_count.Goals as goal
use Rattle.vx_patches.proofs.rules.is_count.Goals.{else-count-gt0-via-then-count-gt0+else-number_at-bound, else-count-gt0-via-else-count-gt0, else-count-len-via-then-count-len+else-number_at-bound-2, else-count-len-via-else-count-len}

pub returns-then-number_at-bound-clause-count : goal.returns-then-number_at-bound-clause-count
returns-then-number_at-bound-clause-count g c =
    let xs = numbers_of c.args.indices.now.rows in
    more_than c.args.count (count_below c.args.bound xs) (too_many c.args.bound xs (Rising-from_increasing xs c.requires.rising) c.args.count (omega arith) (omega (arith, c.number_at.ensures.value)))

pub returns-then-number_at-bound-2-clause-count : goal.returns-then-number_at-bound-2-clause-count
returns-then-number_at-bound-2-clause-count g c =
    let xs = numbers_of c.args.indices.now.rows in
    less_than c.args.count (count_below c.args.bound xs)
    (too_few c.args.bound xs (Rising-from_increasing xs c.requires.rising) c.args.count (omega (arith, length_numbers c.args.indices.now.rows)) (omega (arith, c.number_at-then-count-len.ensures.value)))

pub returns-clause-count : goal.returns-clause-count
returns-clause-count g c =
    let xs = numbers_of c.args.indices.now.rows in
    let long = length_numbers c.args.indices.now.rows in
    as_many c.args.count (count_below c.args.bound xs) (count_is c.args.bound xs (Rising-from_increasing xs c.requires.rising) c.args.count (omega (arith, c.requires.inside))
    (λ some. elim c.else-count-gt0.branch as (λ _. get_or xs (c.args.count - 1) 0 < c.args.bound) [
      | else-count-gt0-via-then-count-gt0+else-number_at-bound w ↦ omega (arith, w.number_at.ensures.value, w.if-number_at-bound.false)
      | else-count-gt0-via-else-count-gt0 w ↦ absurd (omega (arith, w.if-count-gt0.false))
    ])
    (λ inside. elim c.else-count-len.branch as (λ _. c.args.bound ≤ get_or xs c.args.count 0) [
      | else-count-len-via-then-count-len+else-number_at-bound-2 w ↦ omega (arith, w.number_at-then-count-len.ensures.value, w.if-number_at-bound-2.false)
      | else-count-len-via-else-count-len w ↦ absurd (omega (arith, w.if-count-len.false))
    ]))
