use Rattle.std.proofs.Common.{sym, ◌∙◌}
use Rattle.vx_patches.proofs.Searches.{first_below_seen, first_above_seen, searchable_seen}
use Rattle.vx_patches.proofs.search.first_from.Goals as goal

pub partition_point_counted-requires-clause-sorted : goal.partition_point_counted-requires-clause-sorted
partition_point_counted-requires-clause-sorted g c =
    searchable_seen c.args.column.now c.places-numbers.result (sym (c.places-numbers.ensures ∙ c.over.ensures ∙ c.new.ensures)) c.args.value c.dtype.ensures.fits c.requires.unsigned c.requires.rising

pub returns-clause-below : goal.returns-clause-below
returns-clause-below g c =
    first_below_seen c.args.column.now c.places-numbers.result (sym (c.places-numbers.ensures ∙ c.over.ensures ∙ c.new.ensures)) c.args.value c.args.start c.args.end c.in-Ok.place c.dtype.ensures.fits c.requires.unsigned c.requires.between c.in-Ok.ensures.ok

pub returns-clause-above : goal.returns-clause-above
returns-clause-above g c =
    first_above_seen c.args.column.now c.places-numbers.result (sym (c.places-numbers.ensures ∙ c.over.ensures ∙ c.new.ensures)) c.args.value c.args.start c.args.end c.in-Ok.place c.dtype.ensures.fits c.requires.unsigned c.requires.between c.in-Ok.ensures.ok
