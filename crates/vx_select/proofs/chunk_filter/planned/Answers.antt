use Rattle.std.proofs.Common.{sym, ap, ◌∙◌}
use Rattle.vx_chunks.specs.Bounds.{total}
use Rattle.vx_column.proofs.Cuts.{total_is}
use Rattle.vx_select.proofs.chunk_filter.planned.Goals as goal

pub plan_filter-requires : goal.plan_filter-requires
plan_filter-requires g c = c.requires.long ∙ sym (total_is c.args.array.now) ∙ ap total (sym c.boundaries.ensures)
