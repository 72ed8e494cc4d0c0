use Rattle.std.proofs.Common.{◌∙◌, sym}
use Rattle.vx_patches.proofs.Searches.{searchable_seen}
use Rattle.vx_patch_select.proofs.Galloping.{gallop_counts, gallop_cost_seen}
use Rattle.vx_patch_select.proofs.rows.first_index.Goals as goal

pub gallop_lower_bound-requires-clause-sorted : goal.gallop_lower_bound-requires-clause-sorted
gallop_lower_bound-requires-clause-sorted g c =
    searchable_seen c.args.indices.now c.places-numbers.result (sym (c.places-numbers.ensures ∙ c.over.ensures ∙ c.new.ensures)) c.args.value c.dtype.ensures.fits c.requires.unsigned c.requires.rising

pub returns-clause-first : goal.returns-clause-first
returns-clause-first g c =
    gallop_counts c.args.indices.now c.places-numbers.result (sym (c.places-numbers.ensures ∙ c.over.ensures ∙ c.new.ensures)) c.args.value c.args.start c.in-Ok.place c.dtype.ensures.fits c.requires.unsigned
    c.requires.rising c.requires.start c.in-Ok.ensures.ok

pub returns-clause-rise : goal.returns-clause-rise
returns-clause-rise g c =
    gallop_cost_seen c.args.indices.now c.places-numbers.result (sym (c.places-numbers.ensures ∙ c.over.ensures ∙ c.new.ensures)) c.args.start c.args.steps.now c.gallop_lower_bound.new.steps c.requires.some
    c.gallop_lower_bound.ensures.most
