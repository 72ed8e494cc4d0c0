use Rattle.std.proofs.Common.{arith, sym, ◌∙◌, ap, Some}
use Rattle.std.specs.Option.{option_map}
use Rattle.vx_lanes.specs.Layouts.{value_of}
use Rattle.vx_lanes.proofs.Entries.{entry_inside, entry_small}
use Rattle.vx_lanes.proofs.Exceptions.{Belongs, entry_at, entry_at_within, one_exception, exception_some, exception_none, found_at, missed_at}
use Rattle.vx_lanes.proofs.Pairs.{pairs_mean}
use Rattle.vx_lanes.proofs.lanes.Lanes.find_at.Goals as goal

pub index_at-requires : goal.index_at-requires
index_at-requires g c =
    let l = c.args.self.now in
    let s = c.n_lanes-n_lanes.ensures.layout in
    entry_inside l (entry_at l c.args.place) c.loop-exception.exception s (entry_at_within l c.args.place s c.requires) (omega (arith, c.loop-exception.invariant.end))

pub returns-then-index_at-index-clause-found : goal.returns-then-index_at-index-clause-found
returns-then-index_at-index-clause-found g c =
    let l = c.args.self.now in
    let s = c.n_lanes-n_lanes.ensures.layout in
    let b : Belongs l (entry_at l c.args.place) c.loop-exception.exception = record { from = c.loop-exception.invariant.from; below = omega (arith, c.loop-exception.invariant.end) } in
    λ row e. sym (exception_some l row c.loop-exception.exception s (omega arith) (found_at l c.args.place c.loop-exception.exception row s c.requires b (omega arith) e))

pub returns-then-index_at-index-clause-only : goal.returns-then-index_at-index-clause-only
returns-then-index_at-index-clause-only g c =
    let l = c.args.self.now in
    let s = c.n_lanes-n_lanes.ensures.layout in
    let b : Belongs l (entry_at l c.args.place) c.loop-exception.exception = record { from = c.loop-exception.invariant.from; below = omega (arith, c.loop-exception.invariant.end) } in
    λ row k e f. ap Some (one_exception l row c.loop-exception.exception k s (omega arith) (found_at l c.args.place c.loop-exception.exception row s c.requires b (omega arith) e) f)

pub returns-then-index_at-index-clause-means : goal.returns-then-index_at-index-clause-means
returns-then-index_at-index-clause-means g c =
    let l = c.args.self.now in
    λ row e. ap (option_map (value_of l)) (returns-then-index_at-index-clause-found g c row e) ∙ sym (pairs_mean l row c.n_lanes-n_lanes.ensures.layout (omega arith))

pub returns-then-index_at-index-clause-rise : goal.returns-then-index_at-index-clause-rise
returns-then-index_at-index-clause-rise g c =
    let l = c.args.self.now in
    let s = c.n_lanes-n_lanes.ensures.layout in
    omega (arith, entry_small l (entry_at l c.args.place) s (entry_at_within l c.args.place s c.requires))

pub returns-clause-found : goal.returns-clause-found
returns-clause-found g c =
    let l = c.args.self.now in
    let never = missed_at l c.args.place c.n_lanes-n_lanes.ensures.layout c.requires (λ m b p. c.loop-exception.invariant.none m b.from (omega (arith, b.below)) p) in
    λ row e. sym (exception_none l row (λ k f. never row k e f))

pub returns-clause-only : goal.returns-clause-only
returns-clause-only g c =
    let l = c.args.self.now in
    λ row k e f. absurd (missed_at l c.args.place c.n_lanes-n_lanes.ensures.layout c.requires (λ m b p. c.loop-exception.invariant.none m b.from (omega (arith, b.below)) p) row k e f)

pub returns-clause-means : goal.returns-clause-means
returns-clause-means g c =
    let l = c.args.self.now in
    λ row e. ap (option_map (value_of l)) (returns-clause-found g c row e) ∙ sym (pairs_mean l row c.n_lanes-n_lanes.ensures.layout (omega arith))

pub returns-clause-rise : goal.returns-clause-rise
returns-clause-rise g c =
    let l = c.args.self.now in
    let s = c.n_lanes-n_lanes.ensures.layout in
    omega (arith, entry_small l (entry_at l c.args.place) s (entry_at_within l c.args.place s c.requires))
