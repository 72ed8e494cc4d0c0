use Rattle.std.proofs.Common.{sym, ◌∙◌}
use Rattle.vx_interleave.proofs.Checked.{holds}
use Rattle.vx_interleave.proofs.selectors.check_selectors.Goals as goal

pub returns-in-None-clause-within : goal.returns-in-None-clause-within
returns-in-None-clause-within c = (holds c.args.array_indices.now c.args.row_indices.now c.args.lens.now (sym c.selector_fault.ensures ∙ c.in-None.is)).within

pub returns-in-None-clause-sound : goal.returns-in-None-clause-sound
returns-in-None-clause-sound c = (holds c.args.array_indices.now c.args.row_indices.now c.args.lens.now (sym c.selector_fault.ensures ∙ c.in-None.is)).sound
