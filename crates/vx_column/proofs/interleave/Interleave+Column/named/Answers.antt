use Rattle.vx_column.proofs.Layers.{interleaved_here}
use Rattle.vx_column.proofs.Interleaves.{row_named, value_named}
use Rattle.vx_column.proofs.interleave.Interleave+Column.named.Goals as goal

pub pair_at-requires : goal.pair_at-requires
pair_at-requires g c = (value_named c.args.self.now c.args.at c.requires.sound c.requires.inside).0

pub returns-clause-value : goal.returns-clause-value
returns-clause-value g c =
    let named = value_named c.args.self.now c.args.at c.requires.sound c.requires.inside in
    rw c.pair_at.ensures.array named.1

pub returns-clause-inside : goal.returns-clause-inside
returns-clause-inside g c =
    let named = value_named c.args.self.now c.args.at c.requires.sound c.requires.inside in
    rw (c.pair_at.ensures.array, c.pair_at.ensures.row) named.2

pub returns-clause-row : goal.returns-clause-row
returns-clause-row g c =
    let named = value_named c.args.self.now c.args.at c.requires.sound c.requires.inside in
    rw (c.pair_at.ensures.array, c.pair_at.ensures.row) (row_named c.args.self.now c.args.at (interleaved_here c.args.self.now c.requires.sound).sound named.0)
