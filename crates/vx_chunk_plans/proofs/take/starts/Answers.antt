use Rattle.std.proofs.Common.{arith, ap, sym, subst, ◌∙◌, ◌≡◌, ◌<◌, ◌+◌, ℕ, List, map, take, length, get_or, length-append, [], ◌∷◌, ◌++◌}
use Rattle.std.proofs.lemmas.List.{length-map}
use Rattle.vx_chunks.specs.Bounds.{total}
use Rattle.vx_chunks.proofs.Sums.{total-take_more, total-take_le}
use Rattle.vx_chunk_plans.proofs.Taking.{start_more, width_at}
use Rattle.vx_chunk_plans.proofs.take.starts.Goals as goal

-- the width of the bucket
width : (c : goal.After-len-sum) → get_or (map length c.args.buckets.now) c.loop-bucket.bucket-index 0 ≡ c.len-sum.result
width c = width_at c.args.buckets.now c.loop-bucket.bucket-index c.bucket-item.result (omega arith) ∙ ap length (sym c.bucket-item.is) ∙ sym c.len-sum.ensures

next : (c : goal.After-len-sum) → c.loop-bucket.sum + c.len-sum.result ≡ total (take (c.loop-bucket.bucket-index + 1) (map length c.args.buckets.now))
next c =
    let ws = map length c.args.buckets.now in
    omega (arith, c.loop-bucket.invariant.sum, width c, total-take_more ws c.loop-bucket.bucket-index 0 (omega (arith, length-map c.args.buckets.now (length {A = ℕ}))))

pub overflow_add-sum : goal.overflow_add-sum
overflow_add-sum c = omega (arith, c.requires, next c, total-take_le (map length c.args.buckets.now) (c.loop-bucket.bucket-index + 1))

pub loop-bucket-preserved : goal.loop-bucket-preserved
loop-bucket-preserved c =
    let ws = map length c.args.buckets.now in
    let i = c.loop-bucket.bucket-index in
    let starts = c.loop-bucket.starts.items in
    record {
      long = omega (arith, ap length c.in_ok-push.ensures.items, length-append starts (c.loop-bucket.sum ∷ []), c.loop-bucket.invariant.long);
      each = subst (λ (xs : List ℕ). (k : ℕ) → k < i + 1 → get_or xs k 0 ≡ total (take k ws)) (sym c.in_ok-push.ensures.items)
          (start_more ws starts i c.loop-bucket.sum c.loop-bucket.invariant.long c.loop-bucket.invariant.each c.loop-bucket.invariant.sum);
      sum = next c;
    }
