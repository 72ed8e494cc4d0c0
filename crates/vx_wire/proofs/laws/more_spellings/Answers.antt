use Rattle.vx_wire.proofs.RoundTrip.{unknown_is_passed_over}
use Rattle.vx_wire.proofs.laws.more_spellings.Goals as goal

pub returns : goal.returns
returns c = unknown_is_passed_over
