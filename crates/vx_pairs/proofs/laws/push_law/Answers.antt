use Rattle.vx_pairs.proofs.Pushes.{pushes_through}
use Rattle.vx_pairs.proofs.laws.push_law.Goals as goal

pub returns : goal.returns
returns c = pushes_through
