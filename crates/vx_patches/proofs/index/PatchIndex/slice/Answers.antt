use Rattle.std.proofs.Common.{arith}
use Rattle.vx_patches.specs.Views.{index_of}
use Rattle.vx_patches.proofs.Slices.{none_seen, never_none, whole_seen}
use Rattle.vx_patches.proofs.index.PatchIndex.slice.Goals as goal

pub returns-then-first-last-clause-ok : goal.returns-then-first-last-clause-ok
returns-then-first-last-clause-ok g c =
    none_seen (index_of c.self.inside) c.args.self.now c.self.view_is c.self.invariant c.args.range.start c.args.range.end c.front-first.result c.back-last.result (omega arith) c.front-first.ensures.place c.back-last.ensures.place c.if-first-last.true

pub returns-then-first-last-clause-whole : goal.returns-then-first-last-clause-whole
returns-then-first-last-clause-whole g c = λ a b.
    never_none (index_of c.self.inside) c.args.self.now c.self.view_is c.self.invariant c.args.range.start c.args.range.end c.front-first.result c.back-last.result c.front-first.ensures.place c.back-last.ensures.place c.if-first-last.true a b

pub returns-clause-whole : goal.returns-clause-whole
returns-clause-whole g c = λ a b.
    whole_seen (index_of c.self.inside) c.args.self.now c.self.view_is c.self.invariant c.in_ok-part.part c.args.range.start c.args.range.end c.front-first.result c.back-last.result c.in_ok-part.ensures.ok a b
