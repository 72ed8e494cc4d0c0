use Rattle.std.proofs.Common.{arith, sym, refl, ◌≡◌, ◌∙◌, ℕ, ◌+◌, ◌*◌, ◌<◌, ◌≤◌, length, slice_index, true, false, nat_eq, nat_lt, inl, inr}
use Rattle.std.proofs.lemmas.Bool.{cases_lt, false≢true}
use Rattle.std.proofs.lemmas.List.Sums.{count_by-le-length}
use Rattle.vx_base.specs.Numbers.{numbers_of}
use Rattle.vx_base.specs.Checks.{count_below}
use Rattle.vx_base.proofs.CheckLemmas.{counts_at, count_at, length_numbers}
use Rattle.vx_base.proofs.checks.counts_below.Goals as goal
use Rattle.vx_base.proofs.checks.counts_below.Goals.{then-sorted, else-sorted}

pub returns-then-number-seen : goal.returns-then-number-seen
returns-then-number-seen c =
    let offsets = numbers_of c.args.offsets.now.rows in
    let indices = numbers_of c.args.indices.now.rows in
    let long = length_numbers c.args.offsets.now.rows in
    let size = length_numbers c.args.indices.now.rows in
    let bound = 1024 * (c.args.start + c.loop-i.i) in
    let counted : count_below bound indices ≡ c.if-sorted.seen = elim c.if-sorted.branch as (λ _. count_below bound indices ≡ c.if-sorted.seen) [
      | then-sorted w ↦
          count_at bound indices w.first_not_below-seen.result (sym c.non_decreasing-sorted.ensures ∙ w.if-sorted.true) (omega (arith, w.first_not_below-seen.ensures.inside))
          (λ k a. elim (cases_lt k c.loop-i.seen) as (λ _. slice_index indices k < bound) [
            | inl early ↦ c.loop-i.invariant.below w.if-sorted.true k early
            | inr late ↦ w.first_not_below-seen.ensures.below k late a
          ])
          (λ a. w.first_not_below-seen.ensures.stops (omega arith))
          ∙ sym w.seen-is
      | else-sorted w ↦ sym (w.seen-is ∙ w.count_below-seen.ensures)
    ] in
    let no : nat_eq (slice_index offsets c.loop-i.i) (count_below bound indices) ≡ false = rw counted (grind arith) in
    sym (c.loop-i.invariant.rest ∙ counts_at c.args.start offsets indices c.loop-i.i (omega arith) ∙ rw no refl)

pub loop-i-preserved : goal.loop-i-preserved
loop-i-preserved c =
    let offsets = numbers_of c.args.offsets.now.rows in
    let indices = numbers_of c.args.indices.now.rows in
    let long = length_numbers c.args.offsets.now.rows in
    let size = length_numbers c.args.indices.now.rows in
    let bound = 1024 * (c.args.start + c.loop-i.i) in
    let Below : ℕ → Type 0 = λ n. (k : ℕ) → k < n → slice_index indices k < bound in
    let Told : ℕ → Type 0 = λ n. (n ≤ length c.args.indices.now.rows) × (c.non_decreasing-sorted.result ≡ true → Below n) × (count_below bound indices ≡ n) in
    let told : Told c.if-sorted.seen = elim c.if-sorted.branch as (λ _. Told c.if-sorted.seen) [
      | then-sorted w ↦
          let walked : Below w.first_not_below-seen.result = λ k a. elim (cases_lt k c.loop-i.seen) as (λ _. slice_index indices k < bound) [
            | inl early ↦ c.loop-i.invariant.below w.if-sorted.true k early
            | inr late ↦ w.first_not_below-seen.ensures.below k late a
          ] in
          rw w.seen-is (
            w.first_not_below-seen.ensures.inside,
            λ _. walked,
            count_at bound indices w.first_not_below-seen.result (sym c.non_decreasing-sorted.ensures ∙ w.if-sorted.true) (omega (arith, w.first_not_below-seen.ensures.inside)) walked
                (λ a. w.first_not_below-seen.ensures.stops (omega arith)),
          )
      | else-sorted w ↦
          let count = sym (w.seen-is ∙ w.count_below-seen.ensures) in
          (omega (arith, count, count_by-le-length (λ x. nat_lt x bound) indices), λ sorted. absurd (false≢true (sym w.if-sorted.false ∙ sorted)), count)
    ] in
    let yes : nat_eq (slice_index offsets c.loop-i.i) (count_below bound indices) ≡ true = rw told.2 (grind arith) in
    record {
      inside = told.0;
      below = λ sorted k a. let at = told.1 sorted k a in omega arith;
      rest = c.loop-i.invariant.rest ∙ counts_at c.args.start offsets indices c.loop-i.i (omega arith) ∙ rw yes refl;
    }
