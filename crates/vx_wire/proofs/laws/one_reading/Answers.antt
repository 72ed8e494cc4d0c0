use Rattle.vx_wire.proofs.OneReading.{one_reading, no_fault_where_read, one_fault}
use Rattle.vx_wire.proofs.laws.one_reading.Goals as goal

pub returns-clause-fields : goal.returns-clause-fields
returns-clause-fields c = one_reading

pub returns-clause-apart : goal.returns-clause-apart
returns-clause-apart c = no_fault_where_read

pub returns-clause-fault : goal.returns-clause-fault
returns-clause-fault c = one_fault
