-- How the data of an interleaved array prints.
use Rattle.std.specs.Prelude.{ℕ, List, codes, ◌++◌}
use Rattle.std.specs.Fmt.{decimal}
use Rattle.vx_interleave.specs.declared.data.InterleaveData.{InterleaveData}

-- as in num_values: 2
abbrev pub data_text : InterleaveData → List ℕ
data_text d = codes "num_values: " ++ decimal d.num_values
