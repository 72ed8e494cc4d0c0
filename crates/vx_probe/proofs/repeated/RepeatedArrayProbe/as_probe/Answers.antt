use Rattle.std.proofs.Common.{refl}
use Rattle.vx_probe.proofs.repeated.RepeatedArrayProbe.as_probe.Goals as goal

pub returns : goal.returns
returns c = ((refl, λ _. tt, refl), record { after = tt; probed = c.new.ensures.column; sound = c.new.ensures.sound })
