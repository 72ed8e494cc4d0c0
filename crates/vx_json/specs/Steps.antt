-- The steps that JSON values are.
use Rattle.std.specs.Prelude.{List, ℕ, codes, bytes_eq, if◌then◌else◌, Option, Some, None}
use Rattle.serde_json.specs.Data.{Data}
use Rattle.serde_json.specs.Find.{get, as_bool, as_str}
use Rattle.vx_search.specs.declared.result.SearchSortedSide.{SearchSortedSide}
use Rattle.vx_search.specs.declared.result.SearchSortedSide.TheVariants.{Left, Right}
use Rattle.vx_job.specs.declared.step.Step.{Step}
use Rattle.vx_job.specs.declared.step.Step.TheVariants.{Slice, Points, Filter, Take, Runs, Mask, Zip, Fill, Cast, Compare, Search, Contains}
use Rattle.vx_json.specs.declared.steps.StepTag.{StepTag}
use Rattle.vx_json.specs.declared.steps.StepTag.TheVariants as tag
use Rattle.vx_json_rows.specs.Forms.{◌>>=◌, has, object_of, list_of, null_or, pair_of, whole_of}
use Rattle.vx_json_rows.specs.Types.{type_of}
use Rattle.vx_json_rows.specs.Scalars.{scalar_form, operator_of}

-- `{"slice":[start,end]}`
unfoldable pub slice_form : Data → Option Step
slice_form d = do
  len ← object_of 1 d
  items ← get (codes "slice") d
  ends ← pair_of whole_of whole_of items
  Some (Slice ends.0 ends.1)

-- `{"points":[n],"kept":b}`
unfoldable pub points_form : Data → Option Step
points_form d = do
  len ← object_of 2 d
  items ← get (codes "points") d
  flag ← get (codes "kept") d
  rows ← list_of whole_of items
  kept ← as_bool flag
  Some (Points rows kept)

-- `{"filter":[b]}`
unfoldable pub filter_form : Data → Option Step
filter_form d = do
  len ← object_of 1 d
  items ← get (codes "filter") d
  mask ← list_of as_bool items
  Some (Filter mask)

-- `{"take":[n or null]}`
unfoldable pub take_form : Data → Option Step
take_form d = do
  len ← object_of 1 d
  items ← get (codes "take") d
  indices ← list_of (null_or whole_of) items
  Some (Take indices)

-- `{"runs":[[start,length]],"len":n}`
unfoldable pub runs_form : Data → Option Step
runs_form d = do
  len ← object_of 2 d
  items ← get (codes "runs") d
  count ← get (codes "len") d
  runs ← list_of (pair_of whole_of whole_of) items
  n ← whole_of count
  Some (Runs runs n)

-- `{"mask":[b]}`
unfoldable pub mask_form : Data → Option Step
mask_form d = do
  len ← object_of 1 d
  items ← get (codes "mask") d
  mask ← list_of as_bool items
  Some (Mask mask)

-- `{"zip":source,"choice":[b]}`
unfoldable pub zip_form : Data → Option Step
zip_form d = do
  len ← object_of 2 d
  number ← get (codes "zip") d
  items ← get (codes "choice") d
  source ← whole_of number
  choice ← list_of as_bool items
  Some (Zip source choice)

-- `{"fill":V}`, where V is `{"type":T,"row":row}`
unfoldable pub fill_form : Data → Option Step
fill_form d = do
  len ← object_of 1 d
  item ← get (codes "fill") d
  value ← scalar_form item
  Some (Fill value)

-- `{"cast":T}`
unfoldable pub cast_form : Data → Option Step
cast_form d = do
  len ← object_of 1 d
  kind ← get (codes "cast") d
  target ← type_of kind
  Some (Cast target)

-- `{"compare":op,"value":V}`
unfoldable pub compare_form : Data → Option Step
compare_form d = do
  len ← object_of 2 d
  name ← get (codes "compare") d
  item ← get (codes "value") d
  operator ← operator_of name
  value ← scalar_form item
  Some (Compare operator value)

-- the side of this name
abbrev pub side_named : List ℕ → Option SearchSortedSide
side_named s =
    if bytes_eq s (codes "left") then Some Left else (
    if bytes_eq s (codes "right") then Some Right else None)

-- the side that a text names
abbrev pub side_of : Data → Option SearchSortedSide
side_of d = as_str d >>= side_named

-- `{"search":side,"value":V}`
unfoldable pub search_form : Data → Option Step
search_form d = do
  len ← object_of 2 d
  name ← get (codes "search") d
  item ← get (codes "value") d
  side ← side_of name
  value ← scalar_form item
  Some (Search value side)

-- `{"contains":source}`
unfoldable pub contains_form : Data → Option Step
contains_form d = do
  len ← object_of 1 d
  number ← get (codes "contains") d
  source ← whole_of number
  Some (Contains source)

-- which form the value's keys name
abbrev pub tag_of : Data → Option StepTag
tag_of d =
    if has (codes "slice") d then Some tag.Slice else (
    if has (codes "points") d then Some tag.Points else (
    if has (codes "filter") d then Some tag.Filter else (
    if has (codes "take") d then Some tag.Take else (
    if has (codes "runs") d then Some tag.Runs else (
    if has (codes "mask") d then Some tag.Mask else (
    if has (codes "zip") d then Some tag.Zip else (
    if has (codes "fill") d then Some tag.Fill else (
    if has (codes "cast") d then Some tag.Cast else (
    if has (codes "compare") d then Some tag.Compare else (
    if has (codes "search") d then Some tag.Search else (
    if has (codes "contains") d then Some tag.Contains else None)))))))))))

-- a value of that form
abbrev pub step_by : Option StepTag → Data → Option Step
step_by None d = None
step_by (Some tag.Slice) d = slice_form d
step_by (Some tag.Points) d = points_form d
step_by (Some tag.Filter) d = filter_form d
step_by (Some tag.Take) d = take_form d
step_by (Some tag.Runs) d = runs_form d
step_by (Some tag.Mask) d = mask_form d
step_by (Some tag.Zip) d = zip_form d
step_by (Some tag.Fill) d = fill_form d
step_by (Some tag.Cast) d = cast_form d
step_by (Some tag.Compare) d = compare_form d
step_by (Some tag.Search) d = search_form d
step_by (Some tag.Contains) d = contains_form d

abbrev pub step_of : Data → Option Step
step_of d = step_by (tag_of d) d
