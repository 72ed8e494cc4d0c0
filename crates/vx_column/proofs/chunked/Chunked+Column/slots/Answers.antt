use Rattle.std.proofs.Common.{◌∙◌, ap, map, sym, subst}
use Rattle.std.specs.List.{All}
use Rattle.vx_column.specs.Columns.{IsSound, offset_slots}
use Rattle.vx_column.specs.declared.column.Column.TheVariants as column
use Rattle.vx_column.proofs.Layers.{chunks_here, offsets_here, offsets_held}
use Rattle.vx_column.proofs.chunked.Chunked+Column.slots.Goals as goal

pub returns-clause-value : goal.returns-clause-value
returns-clause-value c =
    let self = c.args.self.now in
    c.as_slice.ensures ∙ c.get.ensures ∙ offsets_here self c.requires ∙ ap (λ lens. map column.Flat (offset_slots lens)) (chunks_here self c.requires).bounds

pub returns-clause-sound : goal.returns-clause-sound
returns-clause-sound c = subst (All IsSound) (sym (c.as_slice.ensures ∙ c.get.ensures)) (offsets_held c.args.self.now c.requires)
