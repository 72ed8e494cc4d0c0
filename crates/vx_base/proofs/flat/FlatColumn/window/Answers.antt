use Rattle.vx_base.proofs.Windows.{windowed}
use Rattle.vx_base.proofs.flat.FlatColumn.window.Goals as goal

pub invariant_of-result : goal.invariant_of-result
invariant_of-result c =
    (windowed c.self.inside c.args.self.now _ _ c.self.view_is c.self.invariant c.in_ok-copy.ensures.ok c.in_ok-share.ensures.ok _ _ c.requires.order c.requires.inside).0

pub returns-clause-ok : goal.returns-clause-ok
returns-clause-ok c =
    (windowed c.self.inside c.args.self.now _ _ c.self.view_is c.self.invariant c.in_ok-copy.ensures.ok c.in_ok-share.ensures.ok _ _ c.requires.order c.requires.inside).1

pub returns-clause-fits : goal.returns-clause-fits
returns-clause-fits c =
    (windowed c.self.inside c.args.self.now _ _ c.self.view_is c.self.invariant c.in_ok-copy.ensures.ok c.in_ok-share.ensures.ok _ _ c.requires.order c.requires.inside).0.2
