use Rattle.vx_patch_slots.proofs.Slots.{reads_back}
use Rattle.vx_patch_slots.proofs.laws.slots_law.Goals as goal

pub returns : goal.returns
returns c = reads_back
