use Rattle.std.proofs.Common.{arith, refl, sym, subst, ◌+◌, ◌≤◌, ◌∷◌, [], length, take, get_or}
use Rattle.std.proofs.Math.Nat.{mul-le-mul, le_refl}
use Rattle.vx_patches.specs.Search.{search_cost}
use Rattle.vx_column.specs.Columns.{rows_of}
use Rattle.vx_column.specs.declared.column.Column.TheVariants as column
use Rattle.vx_select.specs.Spots.{AreSpotsOf}
use Rattle.vx_select.proofs.Deals.{spots_more}
use Rattle.vx_select.proofs.spots.exception_spots.Goals as goal

pub loop-place-preserved : goal.loop-place-preserved
loop-place-preserved g c =
    let places = c.args.places.now in
    let i = c.loop-place.place-index in
    let values = rows_of c.args.array.now.base ∷ rows_of c.args.array.now.values ∷ [] in
    let all = rows_of (column.Excepted c.args.array.now) in
    record {
      spots = subst (AreSpotsOf values all (take (i + 1) places)) (sym c.in_ok-push.ensures.items)
          (spots_more values all places i (get_or places i 0) c.loop-place.spots.items c.exception_spot.result (omega arith) refl c.loop-place.invariant.spots c.exception_spot.ensures.spot);
      rise = omega (arith, c.loop-place.invariant.rise, c.exception_spot.ensures.rise);
      monotone = omega (arith, c.loop-place.invariant.monotone, c.exception_spot.ensures.monotone);
    }

pub returns-clause-rise : goal.returns-clause-rise
returns-clause-rise g c =
    let few : c.loop-place.place-index ≤ length c.args.places.now = omega arith in
    omega (arith, c.loop-place.invariant.rise, mul-le-mul few (le_refl (search_cost c.args.array.now.index)))

pub returns-in_err-push-clause-rise : goal.returns-in_err-push-clause-rise
returns-in_err-push-clause-rise g c =
    let few : c.loop-place.place-index + 1 ≤ length c.args.places.now = omega arith in
    omega (arith, c.loop-place.invariant.rise, c.exception_spot.ensures.rise, mul-le-mul few (le_refl (search_cost c.args.array.now.index)))
