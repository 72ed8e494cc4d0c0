-- How the fields of an index of exceptions stand for what callers see.
use Rattle.vx_patches.specs.declared.index.PatchIndex.TheInside.{Inside}
use Rattle.vx_patches.specs.Places.{Index, IsIndex}

abbrev pub index_of : Inside → Index
index_of p = record { len = p.array_len; offset = p.offset; indices = p.indices; chunk_offsets = p.chunk_offsets; within = p.within }

abbrev pub IsSound : Inside → Type 0
IsSound p = IsIndex (index_of p)
