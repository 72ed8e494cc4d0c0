use Rattle.vx_wire.proofs.RoundTrip.{patches_read_back, lanes_read_back}
use Rattle.vx_wire.proofs.laws.round_trip.Goals as goal

pub returns-clause-patches : goal.returns-clause-patches
returns-clause-patches c = patches_read_back

pub returns-clause-lanes : goal.returns-clause-lanes
returns-clause-lanes c = lanes_read_back
