-- The names of slots.
use Rattle.std.specs.Prelude.{ℕ, zero, suc, List, [], ◌∷◌, ◌++◌, get_or, codes}
use Rattle.std.specs.Fmt.{decimal}
use Rattle.vx_column.specs.declared.column.Column.{Column}
use Rattle.vx_column.specs.declared.column.Column.TheOpen.{Column-F}
use Rattle.vx_column.specs.declared.column.Column.TheViews.{out-Column}

-- the boundaries first, and then each chunk with its number
abbrev pub chunk_name : ℕ → List ℕ
chunk_name zero = codes "chunk_offsets"
chunk_name (suc chunk) = codes "chunks[" ++ (decimal chunk ++ codes "]")

abbrev pub patched_names : List (List ℕ)
patched_names = codes "inner" ∷ codes "lane_offsets" ∷ codes "patch_indices" ∷ codes "patch_values" ∷ []

abbrev pub exception_names : List (List ℕ)
exception_names = codes "base" ∷ codes "indices" ∷ codes "values" ∷ codes "chunk_offsets" ∷ []

-- the two selectors first, and then each value with its number
abbrev pub value_name : ℕ → List ℕ
value_name zero = codes "array_indices"
value_name (suc zero) = codes "row_indices"
value_name (suc (suc value)) = codes "value_" ++ decimal value

abbrev pub layer_name : {A : Type 0} → Column-F A → ℕ → List ℕ
layer_name (Column-F.Flat c) slot = []
layer_name (Column-F.Chunked chunked) slot = chunk_name slot
layer_name (Column-F.Patched patched) slot = get_or patched_names slot []
layer_name (Column-F.Excepted excepted) slot = get_or exception_names slot []
layer_name (Column-F.Interleave interleave) slot = value_name slot

-- the name of a slot of the column
abbrev pub name_of : Column → ℕ → List ℕ
name_of column = layer_name (out-Column column)
