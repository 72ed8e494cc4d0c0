use Rattle.std.proofs.Common.{◌∙◌, sym}
use Rattle.vx_column.proofs.Interleaves.{len_interleaved}
use Rattle.vx_column.proofs.interleave.Interleave+Column.len.Goals as goal

pub returns : goal.returns
returns c = c.len.ensures.len ∙ sym (len_interleaved c.args.self.now c.len.ensures.sound)
