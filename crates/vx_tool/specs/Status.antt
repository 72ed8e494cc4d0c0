-- The number and the name of each status.
use Rattle.std.specs.Prelude.{ℕ, List, codes}
use Rattle.vx_tool.specs.declared.status.Status.{Status}
use Rattle.vx_tool.specs.declared.status.Status.TheVariants as status

abbrev pub code_of : Status → ℕ
code_of status.Ok = 0
code_of status.Refused = 1
code_of status.Usage = 2
code_of status.NotAJob = 3
code_of status.ReadFault = 4
code_of status.WriteFault = 5
code_of status.OutOfMemory = 6
code_of status.TooLong = 7

abbrev pub name_of : Status → List ℕ
name_of status.Ok = codes "ok"
name_of status.Refused = codes "refused"
name_of status.Usage = codes "usage: vxcol [run]"
name_of status.NotAJob = codes "not a job"
name_of status.ReadFault = codes "a read failed"
name_of status.WriteFault = codes "a write failed"
name_of status.OutOfMemory = codes "out of memory"
name_of status.TooLong = codes "too long"
