use Rattle.std.proofs.Common.{◌≡◌, take}
use Rattle.vx_chunk_plans.specs.Filters.{slice_places}
use Rattle.vx_select.proofs.places.places_of_slices.Given as goal

abbrev pub invariant-loop-slice : goal.invariant-loop-slice
invariant-loop-slice l = l.places.items ≡ slice_places (take l.slice-index l.slices)
