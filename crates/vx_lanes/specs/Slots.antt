-- How the data of a lane layout prints.
use Rattle.std.specs.Prelude.{ℕ, List, codes, ◌++◌}
use Rattle.std.specs.Fmt.{decimal}
use Rattle.vx_lanes.specs.declared.data.PatchedData.{PatchedData}

-- as in n_lanes: 32, offset: 5
abbrev pub data_text : PatchedData → List ℕ
data_text d = codes "n_lanes: " ++ decimal d.n_lanes ++ codes ", offset: " ++ decimal d.offset
