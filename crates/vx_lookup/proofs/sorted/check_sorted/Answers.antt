use Rattle.std.proofs.Common.{ℕ, ◌+◌, ◌≡◌, ◌∷◌, inr, refl, sym, ◌∙◌, ap, subst, arith, get_or, None}
use Rattle.vx_scalars.proofs.Total.{row_cmp_total}
use Rattle.vx_lookup.proofs.Sortedness.{falls_before, ascends_on, row_after, repeated_ascends}
use Rattle.vx_lookup.proofs.sorted.check_sorted.Goals as goal

pub returns-in-Some-clause-sorted : goal.returns-in-Some-clause-sorted
returns-in-Some-clause-sorted g c = repeated_ascends row_cmp_total c.args.rows.now.rows _ c.in-Some.ensures

pub returns-then-is_lt-clause-err : goal.returns-then-is_lt-clause-err
returns-then-is_lt-clause-err g c =
    inr (refl, falls_before row_cmp_total c.args.rows.now.rows c.loop-i.i c.loop-i.before c.cmp_at.result (omega arith) c.loop-i.invariant.here c.cmp_at.ensures.value (sym c.is_lt.ensures ∙ c.if-is_lt.true))

pub loop-i-preserved : goal.loop-i-preserved
loop-i-preserved g c = record {
  here = c.in_ok-before.ensures.ok ∙ sym (row_after c.args.rows.now.rows c.loop-i.i);
  so_far = ascends_on row_cmp_total c.args.rows.now.rows c.loop-i.i c.loop-i.before c.cmp_at.result c.loop-i.invariant.here c.cmp_at.ensures.value (sym c.is_lt.ensures ∙ c.if-is_lt.false) c.loop-i.invariant.so_far;
  monotone = omega arith;
}
