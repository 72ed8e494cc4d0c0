use Rattle.std.proofs.Common.{arith, ◌∙◌, ap}
use Rattle.std.proofs.lemmas.List.{take_all}
use Rattle.vx_masks.specs.Bits.{bits_in}
use Rattle.vx_masks.proofs.Marks.{marked}
use Rattle.vx_masks.proofs.bits.bits_in.Goals as goal

pub returns : goal.returns
returns c = marked _ _ _ c.loop-start.invariant ∙ ap (bits_in c.args.len) (take_all c.loop-start.start-index c.args.slices.now (omega arith))
