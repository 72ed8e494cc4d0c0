use Rattle.std.proofs.Common.{arith}
use Rattle.vx_column.proofs.Layers.{interleaved_here}
use Rattle.vx_column.proofs.Interleaves.{len_interleaved, cut_interleaved}
use Rattle.vx_column.proofs.interleave.Interleave+Column.cut.Goals as goal

pub window-requires-clause-inside : goal.window-requires-clause-inside
window-requires-clause-inside c =
    let self = c.args.self.now in
    omega (arith, c.requires.inside, len_interleaved self (interleaved_here self c.requires.sound).sound)

pub returns-clause-ok : goal.returns-clause-ok
returns-clause-ok c = cut_interleaved c.args.self.now _ c.args.start c.args.end c.requires.sound c.in_ok-dtype.ensures.ok c.in_ok-selectors.ensures.ok c.in_ok-values.ensures c.in_ok-slots.ensures.ok c.in_ok-slots.ensures.sound
