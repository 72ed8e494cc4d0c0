-- The parts that JSON values are.
use Rattle.std.specs.Prelude.{ℕ, List, [], ◌∷◌, codes, if◌then◌else◌, Option, Some, None, option_map}
use Rattle.std.specs.Cmp.Lexicographic.{slice_cmp}
use Rattle.std.specs.Ordering.{nat_cmp, match_ordering}
use Rattle.serde_json.specs.Data.{Data, null, boolean, number, string, array, object}
use Rattle.serde_json.specs.Data.{Items, no_items, item, Members, no_members, member}
use Rattle.serde_json.specs.Find.{get}
use Rattle.vx_job.specs.declared.part.Part.{Part, Flat, Constant, Chunked, Lanes, Excepted, Interleaved}
use Rattle.vx_json.specs.declared.parts.Tag.{Tag}
use Rattle.vx_json.specs.declared.parts.Tag.TheVariants as tag
use Rattle.vx_json_rows.specs.Forms.{◌>>=◌, has, object_of, list_of, whole_of, null_or}
use Rattle.vx_json_rows.specs.Types.{type_of}
use Rattle.vx_json_rows.specs.Rows.{row_of, fitted_row}
use Rattle.vx_json_rows.specs.Flat.{flat_form}

-- `{"constant":T,"row":row,"len":n}`
unfoldable pub constant_form : Data → Option Part
constant_form d = do
  len ← object_of 3 d
  kind ← get (codes "constant") d
  value ← get (codes "row") d
  count ← get (codes "len") d
  t ← type_of kind
  row ← row_of t value
  fits ← fitted_row t row
  n ← whole_of count
  Some (Constant t row n)

-- `{"chunked":T,"chunks":[P]}`
unfoldable pub chunked_form : (List ℕ → Option (List Part)) → Data → Option Part
chunked_form parts_in d = do
  len ← object_of 2 d
  kind ← get (codes "chunked") d
  t ← type_of kind
  chunks ← parts_in (codes "chunks")
  Some (Chunked t chunks)

-- `{"lanes":P,"n_lanes":n,"offset":n,"lane_offsets":F,"indices":F,"values":F}`, where F is a flat part
unfoldable pub lanes_form : (List ℕ → Option Part) → Data → Option Part
lanes_form part_in d = do
  len ← object_of 6 d
  lane_count ← get (codes "n_lanes") d
  shift ← get (codes "offset") d
  offsets_part ← get (codes "lane_offsets") d
  indices_part ← get (codes "indices") d
  values_part ← get (codes "values") d
  n_lanes ← whole_of lane_count
  offset ← whole_of shift
  lane_offsets ← flat_form offsets_part
  indices ← flat_form indices_part
  values ← flat_form values_part
  inner ← part_in (codes "lanes")
  Some (Lanes inner n_lanes offset lane_offsets indices values)

-- `{"excepted":P,"offset":n,"indices":F,"values":P,"chunk_offsets":F}`, the last `null` where there are none
unfoldable pub excepted_form : (List ℕ → Option Part) → Data → Option Part
excepted_form part_in d = do
  len ← object_of 5 d
  shift ← get (codes "offset") d
  indices_part ← get (codes "indices") d
  offsets_part ← get (codes "chunk_offsets") d
  offset ← whole_of shift
  indices ← flat_form indices_part
  chunk_offsets ← null_or flat_form offsets_part
  base ← part_in (codes "excepted")
  values ← part_in (codes "values")
  Some (Excepted base offset indices values chunk_offsets)

-- `{"interleaved":[P],"array_indices":F,"row_indices":F}`
unfoldable pub interleaved_form : (List ℕ → Option (List Part)) → Data → Option Part
interleaved_form parts_in d = do
  len ← object_of 3 d
  arrays_part ← get (codes "array_indices") d
  rows_part ← get (codes "row_indices") d
  array_indices ← flat_form arrays_part
  row_indices ← flat_form rows_part
  values ← parts_in (codes "interleaved")
  Some (Interleaved values array_indices row_indices)

-- which form the value's keys name
abbrev pub tag_of : Data → Option Tag
tag_of d =
    if has (codes "flat") d then Some tag.Flat else (
    if has (codes "constant") d then Some tag.Constant else (
    if has (codes "chunked") d then Some tag.Chunked else (
    if has (codes "lanes") d then Some tag.Lanes else (
    if has (codes "excepted") d then Some tag.Excepted else (
    if has (codes "interleaved") d then Some tag.Interleaved else None)))))

-- a value of that form, given the part and the parts that its members are, by key
abbrev pub part_by : Option Tag → (List ℕ → Option Part) → (List ℕ → Option (List Part)) → Data → Option Part
part_by None part_in parts_in d = None
part_by (Some tag.Flat) part_in parts_in d = flat_form d >>= λ rows. Some (Flat rows)
part_by (Some tag.Constant) part_in parts_in d = constant_form d
part_by (Some tag.Chunked) part_in parts_in d = chunked_form parts_in d
part_by (Some tag.Lanes) part_in parts_in d = lanes_form part_in d
part_by (Some tag.Excepted) part_in parts_in d = excepted_form part_in d
part_by (Some tag.Interleaved) part_in parts_in d = interleaved_form parts_in d

-- the part that a value is, by recursion on the value: parts nest as deep as it does
abbrev mutual
  pub part_of : Data → Option Part
  part_of null = None
  part_of (boolean b) = None
  part_of (number n) = None
  part_of (string s) = None
  part_of (array ds) = None
  part_of (object ms) = part_by (tag_of (object ms)) (part_in ms) (parts_in ms) (object ms)

  -- the list of parts that a value is
  pub parts_of : Data → Option (List Part)
  parts_of null = None
  parts_of (boolean b) = None
  parts_of (number n) = None
  parts_of (string s) = None
  parts_of (array ds) = all_parts ds
  parts_of (object ms) = None

  pub all_parts : Items → Option (List Part)
  all_parts no_items = Some []
  all_parts (item d ds) = part_of d >>= λ p. option_map (λ ps. p ∷ ps) (all_parts ds)

  -- the part that the member of this key is
  pub part_in : Members → List ℕ → Option Part
  part_in no_members key = None
  part_in (member k d ms) key =
      match_ordering (slice_cmp nat_cmp key k) (part_in ms key) (part_of d) (part_in ms key)

  -- the list of parts that the member of this key is
  pub parts_in : Members → List ℕ → Option (List Part)
  parts_in no_members key = None
  parts_in (member k d ms) key =
      match_ordering (slice_cmp nat_cmp key k) (parts_in ms key) (parts_of d) (parts_in ms key)

-- the same by the members of any value
abbrev pub part_under : Data → List ℕ → Option Part
part_under d key = get key d >>= part_of

abbrev pub parts_under : Data → List ℕ → Option (List Part)
parts_under d key = get key d >>= list_of part_of
