use Rattle.std.proofs.Common.{arith, ◌∙◌, ap, sym, subst, ◌≡◌, ◌<◌, ◌≤◌, ◌+◌, List, take, get_or, length}
use Rattle.std.specs.List.{All, AllZip}
use Rattle.std.proofs.lemmas.List.Elements.{All-push}
use Rattle.vx_masks.specs.Masks.{bits_of}
use Rattle.vx_chunks.specs.Bounds.{total}
use Rattle.vx_chunks.proofs.Sums.{total-take_more, total-take_le}
use Rattle.vx_chunk_plans.specs.Filters.{kept_rows, keeps_most, KeepsWithin, IsSuited}
use Rattle.vx_chunk_plans.specs.declared.filter.ChunkFilter.{ChunkFilter}
use Rattle.vx_chunk_plans.proofs.Keeping.{kept_more, kept_zip}
use Rattle.vx_chunk_plans.proofs.filter.chunk_filters.Goals as goal

pub chunk_filter-requires : goal.chunk_filter-requires
chunk_filter-requires c =
    let lens = c.args.boundaries.now in
    let k = c.loop-chunk.chunk in
    omega (arith, c.requires, c.loop-chunk.invariant.start, c.chunk_len-len.ensures, total-take_more lens k 0 (omega arith), total-take_le lens (k + 1))

pub overflow_add-start : goal.overflow_add-start
overflow_add-start c =
    let lens = c.args.boundaries.now in
    let k = c.loop-chunk.chunk in
    omega (arith, c.requires, c.len.ensures, c.loop-chunk.invariant.start, c.chunk_len-len.ensures, total-take_more lens k 0 (omega arith), total-take_le lens (k + 1))

pub loop-chunk-preserved : goal.loop-chunk-preserved
loop-chunk-preserved c =
    let lens = c.args.boundaries.now in
    let bits = bits_of c.args.mask.now in
    let k = c.loop-chunk.chunk in
    let start = c.loop-chunk.start in
    let len = c.chunk_len-len.result in
    let filter = c.in_ok-chunk_filter.field-0 in
    let before = c.loop-chunk.filters.items in
    let inside : k < length lens = omega arith in
    let end : start + len ≡ total (take (k + 1) lens) = omega (arith, c.loop-chunk.invariant.start, c.chunk_len-len.ensures, total-take_more lens k 0 inside) in
    let within : start + len ≤ length bits = omega (arith, c.requires, end, total-take_le lens (k + 1)) in
    let pushed = c.in_ok-push.ensures.items in
    record {
      start = end;
      rows = ap (kept_rows (take (k + 1) lens)) pushed
          ∙ kept_more lens bits before filter k start len inside c.loop-chunk.invariant.within c.loop-chunk.invariant.start c.chunk_len-len.ensures within c.loop-chunk.invariant.rows c.in_ok-chunk_filter.ensures.ok;
      within = subst (λ (fs : List ChunkFilter). AllZip KeepsWithin (take (k + 1) lens) fs) (sym pushed)
          (kept_zip lens before filter k len inside c.loop-chunk.invariant.within c.chunk_len-len.ensures c.in_ok-chunk_filter.ensures.within);
      suited = subst (λ (fs : List ChunkFilter). All (IsSuited (keeps_most bits)) fs) (sym pushed)
          (All-push (IsSuited (keeps_most bits)) before filter c.loop-chunk.invariant.suited (subst (λ b. IsSuited b filter) c.keeps_most-most.ensures c.in_ok-chunk_filter.ensures.suited));
    }
