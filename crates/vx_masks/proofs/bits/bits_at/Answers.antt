use Rattle.std.proofs.Common.{arith, ◌∙◌, ap}
use Rattle.std.proofs.lemmas.List.{take_all}
use Rattle.vx_masks.specs.Bits.{bits_at}
use Rattle.vx_masks.proofs.Marks.{marked}
use Rattle.vx_masks.proofs.bits.bits_at.Goals as goal

pub returns : goal.returns
returns c = marked _ _ _ c.loop-index.invariant ∙ ap (bits_at c.args.len) (take_all c.loop-index.index-index c.args.indices.now (omega arith))
