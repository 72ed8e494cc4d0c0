use Rattle.std.proofs.Common.{arith, sym, refl, ◌≡◌, ◌∙◌, ◌+◌, ◌-◌, suc, true, false, nat_le, slice_index}
use Rattle.vx_base.specs.Numbers.{numbers_of}
use Rattle.vx_base.proofs.CheckLemmas.{each_next_at, each_next_end, length_numbers}
use Rattle.vx_base.proofs.checks.non_decreasing.Goals as goal

pub returns-then-number : goal.returns-then-number
returns-then-number c =
    let xs = numbers_of c.args.column.now.rows in
    let long = length_numbers c.args.column.now.rows in
    let next : suc (c.loop-i.i - 1) ≡ c.loop-i.i = omega arith in
    let no : nat_le (slice_index xs (c.loop-i.i - 1)) (slice_index xs c.loop-i.i) ≡ false = grind arith in
    let e = each_next_at nat_le xs (c.loop-i.i - 1) (omega arith) in
    let f = rw next at e in
    sym (c.loop-i.invariant ∙ f ∙ rw no refl)

pub loop-i-preserved : goal.loop-i-preserved
loop-i-preserved c =
    let xs = numbers_of c.args.column.now.rows in
    let long = length_numbers c.args.column.now.rows in
    let next : suc (c.loop-i.i - 1) ≡ c.loop-i.i = omega arith in
    let there : c.loop-i.i + 1 - 1 ≡ c.loop-i.i = omega arith in
    let yes : nat_le (slice_index xs (c.loop-i.i - 1)) (slice_index xs c.loop-i.i) ≡ true = grind arith in
    let e = each_next_at nat_le xs (c.loop-i.i - 1) (omega arith) in
    let f = rw next at e in
    c.loop-i.invariant ∙ f ∙ rw (yes, there) refl

pub returns : goal.returns
returns c =
    let xs = numbers_of c.args.column.now.rows in
    let long = length_numbers c.args.column.now.rows in
    sym (c.loop-i.invariant ∙ each_next_end nat_le xs (c.loop-i.i - 1) (omega arith))
