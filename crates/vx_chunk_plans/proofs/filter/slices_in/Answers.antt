use Rattle.std.proofs.Common.{arith, ◌∙◌, ap, sym, ◌++◌, ◌∷◌, [], cond, ℕ, List}
use Rattle.vx_masks.specs.Masks.{bits_of}
use Rattle.vx_chunk_plans.proofs.Keeping.{next_bit}
use Rattle.vx_chunk_plans.proofs.filter.slices_in.Goals as goal

pub loop-i-preserved : goal.loop-i-preserved
loop-i-preserved c =
    let i = c.loop-i.i in
    let bit = c.value.result in
    record {
      order = c.in_ok-from.ensures.start;
      places = c.in_ok-from.ensures.ok ∙ ap (λ (ps : List ℕ). ps ++ cond bit (i ∷ []) []) c.loop-i.invariant.places
          ∙ sym (next_bit (bits_of c.args.mask.now) c.args.start i bit (omega arith) c.value.ensures);
      within = c.in_ok-from.ensures.within c.args.len (omega arith) c.loop-i.invariant.within;
    }
