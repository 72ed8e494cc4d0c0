use Rattle.vx_patches.proofs.Parts.{parts_hold}
use Rattle.vx_patches.proofs.laws.parts_law.Goals as goal

pub returns : goal.returns
returns c = parts_hold
