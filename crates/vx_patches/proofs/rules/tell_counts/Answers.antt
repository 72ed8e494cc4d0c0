use Rattle.std.proofs.Common.{ℕ, ◌≡◌, ◌<◌, ◌+◌, ◌*◌, ◌-◌, ◌∙◌, ap, sym, refl, arith, length, get_or, nat_eq, true, false}
use Rattle.vx_base.specs.Checks.{count_below}
use Rattle.vx_base.specs.Numbers.{numbers_of}
use Rattle.vx_base.proofs.CheckLemmas.{length_numbers, counts_at}
use Rattle.vx_patches.specs.Making.{told}
use Rattle.vx_patches.proofs.Cuts.{told_at, length_told}
use Rattle.vx_patches.proofs.rules.tell_counts.Goals as goal

pub returns-then-not-is_count-clause-told : goal.returns-then-not-is_count-clause-told
returns-then-not-is_count-clause-told g c =
    let xs = numbers_of c.args.indices.now.rows in
    let co = numbers_of c.args.offsets.now.rows in
    let os = told c.args.within (length xs) co in
    let i = c.loop-i.i in
    let size = length_numbers c.args.indices.now.rows in
    let inside : i < length co = omega (arith, length_numbers c.args.offsets.now.rows) in
    let counted : c.min-count.result ≡ get_or os i 0 = omega (arith, told_at c.args.within (length xs) co i inside) in
    let bound = 1024 * (c.args.first + i) in
    let no : nat_eq (get_or os i 0) (count_below bound xs) ≡ false = ap (λ (n : ℕ). nat_eq n (count_below bound xs)) (sym counted) ∙ sym c.is_count.ensures.count ∙ c.if-not-is_count.true in
    sym (c.loop-i.invariant.rest ∙ counts_at c.args.first os xs i (omega (arith, length_told c.args.within (length xs) co)) ∙ rw no refl)

pub loop-i-preserved : goal.loop-i-preserved
loop-i-preserved g c =
    let xs = numbers_of c.args.indices.now.rows in
    let co = numbers_of c.args.offsets.now.rows in
    let os = told c.args.within (length xs) co in
    let i = c.loop-i.i in
    let size = length_numbers c.args.indices.now.rows in
    let inside : i < length co = omega (arith, length_numbers c.args.offsets.now.rows) in
    let counted : c.min-count.result ≡ get_or os i 0 = omega (arith, told_at c.args.within (length xs) co i inside) in
    let bound = 1024 * (c.args.first + i) in
    let yes : nat_eq (get_or os i 0) (count_below bound xs) ≡ true = ap (λ (n : ℕ). nat_eq n (count_below bound xs)) (sym counted) ∙ sym c.is_count.ensures.count ∙ c.if-not-is_count.false in
    record {
      rest = c.loop-i.invariant.rest ∙ counts_at c.args.first os xs i (omega (arith, length_told c.args.within (length xs) co)) ∙ rw yes refl;
      rise = omega (arith, c.is_count.ensures.rise, c.number_at-entry.ensures.cost, c.loop-i.invariant.rise);
      monotone = omega (arith, c.is_count.ensures.monotone, c.number_at-entry.ensures.cost, c.loop-i.invariant.monotone);
    }
