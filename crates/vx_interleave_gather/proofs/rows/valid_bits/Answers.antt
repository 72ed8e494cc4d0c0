use Rattle.std.proofs.Common.{◌≡◌, ◌<◌, ◌∷◌, ◌++◌, ◌∙◌, [], ap, map, sym, arith, List, Option}
use Rattle.std.specs.Option.{is_some}
use Rattle.vx_rows.specs.declared.value.Value.{Value}
use Rattle.vx_interleave.specs.Selections.{Selection, array_of, row_of, len_of, selection}
use Rattle.vx_interleave_gather.specs.Gathered.{lists_of, named}
use Rattle.vx_interleave_gather.proofs.Named.{valid_more, named_all}
use Rattle.vx_interleave_gather.proofs.rows.valid_bits.Goals as goal

pub loop-i-preserved : goal.loop-i-preserved
loop-i-preserved g c =
    let s : Selection = selection c.args.array_indices.now c.args.row_indices.now in
    let lists : List (List (Option Value)) = lists_of c.args.values.now in
    let at : c.loop-i.i < len_of s = omega (arith, c.len-i-end.ensures) in
    let row : named lists (c.pair_at-array.result.0, c.pair_at-array.result.1) ≡ named lists (array_of s c.loop-i.i, row_of s c.loop-i.i) = λ j. named lists (c.pair_at-array.ensures.array j, c.pair_at-array.ensures.row j) in
    let bit : c.is_valid.result ≡ is_some (named lists (array_of s c.loop-i.i, row_of s c.loop-i.i)) = c.is_valid.ensures.valid ∙ ap is_some row in
    record {
      bits = c.in_ok-push.ensures.items ∙ (λ j. c.loop-i.invariant.bits j ++ bit j ∷ []) ∙ sym (valid_more lists s c.loop-i.i c.requires.sound at);
      len = omega (arith, c.in_ok-push.ensures.len, c.loop-i.invariant.len);
      cost = omega (arith, c.loop-i.invariant.cost, c.pair_at-array.ensures.cost, c.is_valid.ensures.cost);
    }

pub returns-clause-ok : goal.returns-clause-ok
returns-clause-ok g c =
    let s : Selection = selection c.args.array_indices.now c.args.row_indices.now in
    c.loop-i.invariant.bits ∙ ap (map is_some) (named_all (lists_of c.args.values.now) s c.loop-i.i c.requires.sound (omega (arith, c.len-i-end.ensures)))
