use Rattle.std.proofs.Common.{◌≡◌, ◌∙◌, ◌<◌, ◌^◌, List, ap, sym, subst, map}
use Rattle.std.specs.List.{All}
use Rattle.vx_chunks.specs.Bounds.{total}
use Rattle.vx_column.specs.Columns.{len_of, IsSound, IsOf}
use Rattle.vx_column.specs.declared.column.Column.{Column}
use Rattle.vx_column.proofs.Layers.{chunked_made}
use Rattle.vx_column.proofs.chunked.Chunked+Column.of.Goals as goal

pub returns-clause-sound : goal.returns-clause-sound
returns-clause-sound c =
    let same : c.in_ok-chunks.chunks ≡ c.args.chunks.items = c.in_ok-chunks.ensures ∙ c.from_vec.ensures in
    chunked_made _
    record {
      bounds = c.requires.bounds ∙ ap (map len_of) (sym same);
      fits = subst (λ (xs : List Column). total (map len_of xs) < 2 ^ 64) (sym same) c.requires.fits;
      types = subst (All (IsOf c.args.dtype)) (sym same) c.requires.types;
    }
    c.in_ok-slots.ensures.ok (subst (All IsSound) (sym same) c.requires.sound) c.in_ok-slots.ensures.sound
