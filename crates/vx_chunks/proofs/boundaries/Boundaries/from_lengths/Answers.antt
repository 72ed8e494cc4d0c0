use Rattle.std.proofs.Common.{arith, ap, sym, inr, ◌∙◌, ◌≡◌, ◌+◌, take, map, ◌∷◌, [], ◌++◌}
use Rattle.std.proofs.lemmas.List.{take_all}
use Rattle.vx_rows.specs.declared.error.ColumnError.TheVariants.{Malformed}
use Rattle.vx_rows.specs.declared.error.Rule.TheVariants.{TooLong}
use Rattle.vx_base.specs.Column.{flat}
use Rattle.vx_chunks.specs.Offsets.{offset_type, offset_row}
use Rattle.vx_chunks.specs.Bounds.{total, running, gaps}
use Rattle.vx_chunks.proofs.Sums.{running_more, total-take_more, total-take_le, gaps-running}
use Rattle.vx_chunks.proofs.boundaries.Boundaries.from_lengths.Goals as goal

pub returns-in_default-clause-err : goal.returns-in_default-clause-err
returns-in_default-clause-err c =
    let lens = c.args.lens.now in
    let k = c.loop-len.len-index in
    inr (ap (λ p. Malformed p TooLong) c.empty.ensures, omega (arith, c.in_default.ensures, c.loop-len.invariant.all, total-take_more lens k 0 (omega arith), total-take_le lens (k + 1)))

pub loop-len-preserved : goal.loop-len-preserved
loop-len-preserved c =
    let lens = c.args.lens.now in
    let k = c.loop-len.len-index in
    let sum : c.in-Some.next ≡ total (take (k + 1) lens) = omega (arith, c.in-Some.ensures, total-take_more lens k 0 (omega arith)) in
    record {
      sums = c.in_ok-push-2.ensures.items ∙ ap (λ ks. ks ++ c.in-Some.next ∷ []) c.loop-len.invariant.sums ∙ ap (λ n. running 0 (take k lens) ++ n ∷ []) sum
          ∙ sym (running_more lens k 0 (omega arith));
      all = sum;
      small = omega (arith, c.in-Some.ensures);
    }

pub invariant_of-result : goal.invariant_of-result
invariant_of-result c =
    let kept = ap (λ v. v.items) c.in_ok-ends.ensures ∙ c.loop-len.invariant.sums in
    let lens = take c.loop-len.len-index c.args.lens.now in
    let found : gaps c.in_ok-ends.ends.items ≡ lens = ap gaps kept ∙ gaps-running 0 lens in (
      kept ∙ ap (running 0) (sym found),
      c.in_ok-offsets.ensures.ok ∙ ap (λ ks. flat offset_type (map offset_row ks)) (c.as_slice.ensures.value ∙ c.loop-len.invariant.sums ∙ ap (running 0) (sym found)),
    )

pub returns-clause-ok : goal.returns-clause-ok
returns-clause-ok c = ap gaps (ap (λ v. v.items) c.in_ok-ends.ensures ∙ c.loop-len.invariant.sums) ∙ gaps-running 0 _ ∙ take_all _ _ (omega arith)

pub returns-clause-fits : goal.returns-clause-fits
returns-clause-fits c = omega (arith, c.loop-len.invariant.all, ap total (take_all c.loop-len.len-index c.args.lens.now (omega arith)))
