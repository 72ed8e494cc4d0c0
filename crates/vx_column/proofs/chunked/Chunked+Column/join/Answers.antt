use Rattle.std.proofs.Common.{arith, ap, map, ◌<◌, ◌^◌, sym, subst, ◌∙◌}
use Rattle.std.specs.List.{All}
use Rattle.std.proofs.lemmas.Result.{err_from_is_err_and}
use Rattle.vx_chunks.specs.Bounds.{total}
use Rattle.vx_column.specs.Columns.{len_of, IsSound, IsOf}
use Rattle.vx_column.proofs.Cuts.{all_last, total_last, only_memory_of_sum}
use Rattle.vx_column.proofs.chunked.Chunked+Column.join.Goals as goal

pub bounds-requires : goal.bounds-requires
bounds-requires c = subst (All IsSound) (sym (c.as_slice.ensures.value ∙ c.in_ok-chunks.ensures.ok)) (all_last IsSound c.args.front c.args.middle.now c.args.back c.requires.sound)

pub returns-in_err-boundaries-clause-err : goal.returns-in_err-boundaries-clause-err
returns-in_err-boundaries-clause-err c =
    let p = err_from_is_err_and c.from_residual-in_err-boundaries.result c.from_residual-in_err-boundaries.ensures.1 in
    let kept = c.in_ok-chunks.ensures.ok in
    let sum = ap (λ cs. total (map len_of cs)) (c.as_slice.ensures.value ∙ kept) in
    let fits : total (map len_of c.as_slice.result.now) < 2 ^ 64 = omega (arith, sum, total_last len_of c.args.front c.args.middle.now c.args.back, c.requires.fits) in
    rw (p.1, p.2) (only_memory_of_sum _ _ fits c.in_err-boundaries.ensures.err)

pub of-requires-clause-sound : goal.of-requires-clause-sound
of-requires-clause-sound c = subst (All IsSound) (sym c.in_ok-chunks.ensures.ok) (all_last IsSound c.args.front c.args.middle.now c.args.back c.requires.sound)

pub of-requires-clause-types : goal.of-requires-clause-types
of-requires-clause-types c =
    subst (λ t. All (IsOf t) c.in_ok-chunks.chunks.items) (sym c.in_ok-dtype.ensures.ok)
    (subst (All (IsOf c.args.self.now.dtype)) (sym c.in_ok-chunks.ensures.ok) (all_last (IsOf c.args.self.now.dtype) c.args.front c.args.middle.now c.args.back c.requires.types))
