use Rattle.std.proofs.Common.{arith, ap, ℕ, List, ◌+◌, get_or, length}
use Rattle.vx_chunks.proofs.Sums.{length-running, get_or-running, total-take_more}
use Rattle.vx_chunks.proofs.boundaries.Boundaries.chunk_len.Goals as goal

pub overflow_add-result : goal.overflow_add-result
overflow_add-result c = omega (arith, c.values-ends.type_inv, length-running 0 c.args.self.now, ap length c.values-ends.ensures)

pub offset_bounds-ends-chunk : goal.offset_bounds-ends-chunk
offset_bounds-ends-chunk c = omega (arith, c.values-ends.type_inv, length-running 0 c.args.self.now, ap length c.values-ends.ensures)

pub bounds-ends-chunk : goal.bounds-ends-chunk
bounds-ends-chunk c = omega (arith, c.requires, length-running 0 c.args.self.now, ap length c.values-ends.ensures)

pub offset_bounds-ends-chunk-2 : goal.offset_bounds-ends-chunk-2
offset_bounds-ends-chunk-2 c = omega (arith, c.values-ends.type_inv, length-running 0 c.args.self.now, ap length c.values-ends.ensures)

pub bounds-ends-chunk-2 : goal.bounds-ends-chunk-2
bounds-ends-chunk-2 c = omega (arith, c.requires, length-running 0 c.args.self.now, ap length c.values-ends.ensures)

pub overflow_sub-result : goal.overflow_sub-result
overflow_sub-result c =
    let lens = c.args.self.now in
    let k = c.args.chunk in
    omega (arith, ap (λ (ks : List ℕ). get_or ks k 0) c.values-ends.ensures, ap (λ (ks : List ℕ). get_or ks (k + 1) 0) c.values-ends.ensures, get_or-running 0 lens k 0 (omega arith), get_or-running 0 lens (k + 1) 0 (omega arith), total-take_more lens k 0 c.requires)

pub returns : goal.returns
returns c =
    let lens = c.args.self.now in
    let k = c.args.chunk in
    omega (arith, ap (λ (ks : List ℕ). get_or ks k 0) c.values-ends.ensures, ap (λ (ks : List ℕ). get_or ks (k + 1) 0) c.values-ends.ensures, get_or-running 0 lens k 0 (omega arith), get_or-running 0 lens (k + 1) 0 (omega arith), total-take_more lens k 0 c.requires)
