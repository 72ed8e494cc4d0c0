use Rattle.std.proofs.Common.{List, sym, ◌∙◌, subst}
use Rattle.std.specs.List.{All}
use Rattle.vx_column.specs.declared.column.Column.{Column}
use Rattle.vx_column.specs.Columns.{IsSound}
use Rattle.vx_metadata_cases.proofs.asked.chunked_again.Goals as goal

pub deserialize-requires : goal.deserialize-requires
deserialize-requires g c = subst (λ (columns : List Column). All IsSound columns) (c.children.ensures.value ∙ sym c.in_ok-chunks.ensures.ok) c.children.ensures.sound
