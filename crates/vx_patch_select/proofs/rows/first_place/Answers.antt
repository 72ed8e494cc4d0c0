use Rattle.vx_patch_select.proofs.Galloping.{places_sorted, gallop_places}
use Rattle.vx_patch_select.proofs.rows.first_place.Goals as goal

pub gallop_lower_bound-requires-clause-sorted : goal.gallop_lower_bound-requires-clause-sorted
gallop_lower_bound-requires-clause-sorted g c = places_sorted c.args.places.now c.new-sorted.result c.new-sorted.ensures c.args.row c.requires.rising

pub returns-clause-first : goal.returns-clause-first
returns-clause-first g c =
    gallop_places c.args.places.now c.new-sorted.result c.new-sorted.ensures c.args.row c.args.start c.in-Ok.place c.requires.rising c.requires.start c.in-Ok.ensures.ok
