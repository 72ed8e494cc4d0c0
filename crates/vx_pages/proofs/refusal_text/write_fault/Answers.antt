use Rattle.std.proofs.Common.{rules}
use Rattle.vx_pages.proofs.refusal_text.write_fault.Goals as goal

pub returns-in-Truncated-clause-ok : goal.returns-in-Truncated-clause-ok
returns-in-Truncated-clause-ok c = rw c.in-Truncated.is c.write_plain_fault.ensures.ok

pub returns-in-BadVarint-clause-ok : goal.returns-in-BadVarint-clause-ok
returns-in-BadVarint-clause-ok c = rw c.in-BadVarint.is c.write_plain_fault-in-BadVarint.ensures.ok

pub returns-in-BadKey-clause-ok : goal.returns-in-BadKey-clause-ok
returns-in-BadKey-clause-ok c = rw c.in-BadKey.is c.write_plain_fault-in-BadKey.ensures.ok

pub returns-in-WrongWireType-clause-ok : goal.returns-in-WrongWireType-clause-ok
returns-in-WrongWireType-clause-ok c = rw c.in-WrongWireType.is c.write_tagged_fault.ensures.ok

pub returns-in-Group-clause-ok : goal.returns-in-Group-clause-ok
returns-in-Group-clause-ok c = rw c.in-Group.is c.write_tagged_fault-in-Group.ensures.ok

pub returns-in-UnknownType-clause-ok : goal.returns-in-UnknownType-clause-ok
returns-in-UnknownType-clause-ok c = rw c.in-UnknownType.is (search rules)

pub returns-in-FloatType-clause-ok : goal.returns-in-FloatType-clause-ok
returns-in-FloatType-clause-ok c = rw c.in-FloatType.is (search rules)

pub returns-in-NotUnsigned-clause-ok : goal.returns-in-NotUnsigned-clause-ok
returns-in-NotUnsigned-clause-ok c = rw c.in-NotUnsigned.is (search rules)

pub returns-in-TooLarge-clause-ok : goal.returns-in-TooLarge-clause-ok
returns-in-TooLarge-clause-ok c = rw c.in-TooLarge.is c.write_plain_fault-in-TooLarge.ensures.ok

pub returns-in-NotEmpty-clause-ok : goal.returns-in-NotEmpty-clause-ok
returns-in-NotEmpty-clause-ok c = rw c.in-NotEmpty.is c.write_plain_fault-in-NotEmpty.ensures.ok
