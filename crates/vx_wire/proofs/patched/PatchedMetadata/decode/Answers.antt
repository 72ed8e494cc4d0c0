use Rattle.vx_wire.proofs.OneReading.{all_lanes, first_lanes}
use Rattle.vx_wire.proofs.patched.PatchedMetadata.decode.Goals as goal

pub returns-clause-all : goal.returns-clause-all
returns-clause-all c = λ m says. all_lanes c.args.bytes.now c.read.result c.read.ensures.ok c.read.ensures.err m says

pub returns-clause-first : goal.returns-clause-first
returns-clause-first c = λ fault first. first_lanes c.args.bytes.now c.read.result c.read.ensures.ok c.read.ensures.err fault first
