use Rattle.std.proofs.Common.{◌∙◌, ap, arith}
use Rattle.std.proofs.lemmas.List.{take_all}
use Rattle.vx_haystack.proofs.Marks.{is_place, within_span, marked_is, place_more}
use Rattle.vx_haystack.proofs.numbers.dense_numbers.Goals as goal

pub mark-requires-clause-above : goal.mark-requires-clause-above
mark-requires-clause-above g c =
    rw c.value-item.is (within_span g.T.SetInteger.number c.args.values.now _ c.args.width c.requires.least c.requires.width c.loop-value.value-index c.value-item.result (omega arith)).0

pub mark-requires-clause-within : goal.mark-requires-clause-within
mark-requires-clause-within g c =
    rw c.value-item.is (within_span g.T.SetInteger.number c.args.values.now _ c.args.width c.requires.least c.requires.width c.loop-value.value-index c.value-item.result (omega arith)).1

pub loop-value-preserved : goal.loop-value-preserved
loop-value-preserved g c = record {
  room = omega (arith, c.mark.ensures.len);
  bits = place_more g.T.SetInteger.number _ c.args.values.now c.loop-value.value-index c.value-item.result c.value-item.result _ _ (omega arith) c.value-item.is c.loop-value.invariant.bits c.mark.ensures.set;
}

pub returns-clause-values : goal.returns-clause-values
returns-clause-values g c =
    marked_is g.T.SetInteger.number _ c.args.width c.args.values.now c.loop-value.words.items (within_span g.T.SetInteger.number c.args.values.now _ c.args.width c.requires.least c.requires.width)
    (λ i. c.loop-value.invariant.bits i ∙ ap (λ xs. is_place g.T.SetInteger.number (g.T.SetInteger.number c.args.min) xs i) (take_all c.loop-value.value-index c.args.values.now (omega arith)))
