use Rattle.std.proofs.Common.{arith, ◌≡◌, ◌≤◌, ◌∙◌, ◌+◌, ◌*◌, ◌/◌, ap, List, Bool, length, take}
use Rattle.std.specs.List.{slice_range}
use Rattle.vx_masks.specs.Bits.{count_true}
use Rattle.vx_masks.specs.Views.{MixedBits}
use Rattle.vx_masks.proofs.Counts.{rank_read, count_within}
use Rattle.vx_masks.proofs.values.MaskValues.rank.Goals as goal

bits_are : (c : goal.After-true_count) → c.self.inside.bits.items ≡ c.args.self.now.bits
bits_are c = ap (λ (v : MixedBits). v.bits) c.self.view_is

within : (c : goal.After-true_count) → c.args.i ≤ length c.self.inside.bits.items
within c = omega (arith, ap length (bits_are c))

-- the sum, of the bits behind the view
sum_is : (c : goal.After-true_count) → c.index.result.now + c.true_count.result ≡ count_true (take c.args.i c.self.inside.bits.items)
sum_is c =
    rank_read c.self.inside.bits.items c.self.inside.ranks.items c.args.i c.index.result.now c.true_count.result (within c) c.self.invariant.1 c.index.ensures
    (c.true_count.ensures ∙ ap (λ (bits : List Bool). count_true (slice_range bits (c.args.i / 512 * 512) c.args.i)) c.deref.ensures.value)

pub overflow_add-result : goal.overflow_add-result
overflow_add-result c = omega (arith, sum_is c, count_within c.self.inside.bits.items c.args.i (within c))

pub returns : goal.returns
returns c = sum_is c ∙ ap (λ (bits : List Bool). count_true (take c.args.i bits)) (bits_are c)
