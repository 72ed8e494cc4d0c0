use Rattle.vx_patches.specs.Views.{index_of}
use Rattle.vx_patches.proofs.Slices.{place_of_start}
use Rattle.vx_patches.proofs.index.PatchIndex.front.Goals as goal

pub returns-then-start-eq0-clause-place : goal.returns-then-start-eq0-clause-place
returns-then-start-eq0-clause-place g c = rw (← c.self.view_is) (place_of_start (index_of c.self.inside) c.self.invariant c.args.start c.if-start-eq0.true)
