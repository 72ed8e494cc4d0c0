use Rattle.std.proofs.Common.{subst, sym, length}
use Rattle.vx_search.specs.Answers.{standing}
use Rattle.vx_search.specs.Halving.{asked_at, IsFirstFrom}
use Rattle.vx_search.specs.declared.search.Question.TheVariants.{Below}
use Rattle.vx_search.proofs.Counts.{first_from, ascends_asked, ascends_upto, ascends_standing}
use Rattle.vx_search.proofs.gallop.partition_point_counted.Goals as goal

pub halve-requires-clause-ascends : goal.halve-requires-clause-ascends
halve-requires-clause-ascends g c =
    let xs = g.S.IndexOrd.sequence c.args.seq.now in
    let os = standing g.S.IndexOrd.stands xs c.args.needle.now in
    ascends_upto (asked_at Below os) (length xs) c.args.range.end c.requires.inside (ascends_asked Below os (length xs) (ascends_standing g.S.IndexOrd.stands xs c.args.needle.now c.requires.sorted))

pub returns-clause-ok : goal.returns-clause-ok
returns-clause-ok g c =
    let os = standing g.S.IndexOrd.stands (g.S.IndexOrd.sequence c.args.seq.now) c.args.needle.now in
    subst (IsFirstFrom os c.args.range.start c.args.range.end) (sym c.to_index.ensures) (first_from os c.args.range.start c.args.range.end c.in_ok-place.place c.in_ok-place.ensures.ok)
