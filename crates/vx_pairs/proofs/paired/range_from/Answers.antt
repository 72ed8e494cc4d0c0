use Rattle.std.proofs.Common.{arith, refl, ◌+◌, ◌-◌, ◌<◌, ℕ, get_or}
use Rattle.std.specs.declared.ops.Range.{Range}
use Rattle.vx_chunks.proofs.Sums.{total-take_more}
use Rattle.vx_pairs.proofs.Ranges.{ends_long, end_at, stands, full_of}
use Rattle.vx_pairs.proofs.paired.range_from.Goals as goal

pub overflow_add-left_chunk : goal.overflow_add-left_chunk
overflow_add-left_chunk c = omega (arith, c.requires.left_there, ends_long c.values-left_ends.result.now c.args.left.now c.values-left_ends.ensures, c.values-left_ends.type_inv)

pub offset_bounds-left_ends-left_chunk : goal.offset_bounds-left_ends-left_chunk
offset_bounds-left_ends-left_chunk c = omega (arith, c.requires.left_there, ends_long c.values-left_ends.result.now c.args.left.now c.values-left_ends.ensures, c.values-left_ends.type_inv)

pub bounds-left_ends-left_chunk : goal.bounds-left_ends-left_chunk
bounds-left_ends-left_chunk c = omega (arith, c.requires.left_there, ends_long c.values-left_ends.result.now c.args.left.now c.values-left_ends.ensures, c.values-left_ends.type_inv)

pub offset_bounds-left_ends-left_chunk-2 : goal.offset_bounds-left_ends-left_chunk-2
offset_bounds-left_ends-left_chunk-2 c = omega (arith, c.requires.left_there, ends_long c.values-left_ends.result.now c.args.left.now c.values-left_ends.ensures, c.values-left_ends.type_inv)

pub bounds-left_ends-left_chunk-2 : goal.bounds-left_ends-left_chunk-2
bounds-left_ends-left_chunk-2 c = omega (arith, c.requires.left_there, ends_long c.values-left_ends.result.now c.args.left.now c.values-left_ends.ensures, c.values-left_ends.type_inv)

pub overflow_add-right_chunk : goal.overflow_add-right_chunk
overflow_add-right_chunk c = omega (arith, c.requires.right_there, ends_long c.values-right_ends.result.now c.args.right.now c.values-right_ends.ensures, c.values-right_ends.type_inv)

pub offset_bounds-right_ends-right_chunk : goal.offset_bounds-right_ends-right_chunk
offset_bounds-right_ends-right_chunk c = omega (arith, c.requires.right_there, ends_long c.values-right_ends.result.now c.args.right.now c.values-right_ends.ensures, c.values-right_ends.type_inv)

pub bounds-right_ends-right_chunk : goal.bounds-right_ends-right_chunk
bounds-right_ends-right_chunk c = omega (arith, c.requires.right_there, ends_long c.values-right_ends.result.now c.args.right.now c.values-right_ends.ensures, c.values-right_ends.type_inv)

pub offset_bounds-right_ends-right_chunk-2 : goal.offset_bounds-right_ends-right_chunk-2
offset_bounds-right_ends-right_chunk-2 c = omega (arith, c.requires.right_there, ends_long c.values-right_ends.result.now c.args.right.now c.values-right_ends.ensures, c.values-right_ends.type_inv)

pub bounds-right_ends-right_chunk-2 : goal.bounds-right_ends-right_chunk-2
bounds-right_ends-right_chunk-2 c = omega (arith, c.requires.right_there, ends_long c.values-right_ends.result.now c.args.right.now c.values-right_ends.ensures, c.values-right_ends.type_inv)

pub overflow_sub-result : goal.overflow_sub-result
overflow_sub-result c = omega (arith, c.requires.left_start, end_at c.values-left_ends.result.now c.args.left.now c.args.left_chunk c.values-left_ends.ensures (omega (arith, c.requires.left_there)))

pub overflow_sub-result-2 : goal.overflow_sub-result-2
overflow_sub-result-2 c =
    let lefts = c.args.left.now in
    let rights = c.args.right.now in
    let j = c.args.left_chunk in
    let k = c.args.right_chunk in
    let left_back = end_at c.values-left_ends.result.now lefts (j + 1) c.values-left_ends.ensures (omega (arith, c.requires.left_there)) in
    let right_back = end_at c.values-right_ends.result.now rights (k + 1) c.values-right_ends.ensures (omega (arith, c.requires.right_there)) in
    omega (arith, c.requires.left_start, end_at c.values-left_ends.result.now c.args.left.now c.args.left_chunk c.values-left_ends.ensures (omega (arith, c.requires.left_there)), c.min-end.ensures, left_back, right_back, total-take_more lefts j 0 c.requires.left_there, total-take_more rights k 0 c.requires.right_there, c.requires.left_end, c.requires.right_end)

pub overflow_sub-result-3 : goal.overflow_sub-result-3
overflow_sub-result-3 c = omega (arith, c.requires.right_start, end_at c.values-right_ends.result.now c.args.right.now c.args.right_chunk c.values-right_ends.ensures (omega (arith, c.requires.right_there)))

pub overflow_sub-result-4 : goal.overflow_sub-result-4
overflow_sub-result-4 c =
    let lefts = c.args.left.now in
    let rights = c.args.right.now in
    let j = c.args.left_chunk in
    let k = c.args.right_chunk in
    let left_back = end_at c.values-left_ends.result.now lefts (j + 1) c.values-left_ends.ensures (omega (arith, c.requires.left_there)) in
    let right_back = end_at c.values-right_ends.result.now rights (k + 1) c.values-right_ends.ensures (omega (arith, c.requires.right_there)) in
    omega (arith, c.requires.right_start, end_at c.values-right_ends.result.now c.args.right.now c.args.right_chunk c.values-right_ends.ensures (omega (arith, c.requires.right_there)), c.min-end.ensures, left_back, right_back, total-take_more lefts j 0 c.requires.left_there, total-take_more rights k 0 c.requires.right_there, c.requires.left_end, c.requires.right_end)

pub returns-clause-pair : goal.returns-clause-pair
returns-clause-pair c =
    let lefts = c.args.left.now in
    let rights = c.args.right.now in
    let j = c.args.left_chunk in
    let k = c.args.right_chunk in
    let left_ends = c.values-left_ends.result.now in
    let right_ends = c.values-right_ends.result.now in
    let row = c.args.row in
    let end = c.min-end.result in
    let left_front = end_at left_ends lefts j c.values-left_ends.ensures (omega (arith, c.requires.left_there)) in
    let left_back = end_at left_ends lefts (j + 1) c.values-left_ends.ensures (omega (arith, c.requires.left_there)) in
    let right_front = end_at right_ends rights k c.values-right_ends.ensures (omega (arith, c.requires.right_there)) in
    let right_back = end_at right_ends rights (k + 1) c.values-right_ends.ensures (omega (arith, c.requires.right_there)) in
    let left_more = total-take_more lefts j 0 c.requires.left_there in
    let right_more = total-take_more rights k 0 c.requires.right_there in
    let some : row < end = omega (arith, c.min-end.ensures, left_back, right_back, left_more, right_more, c.requires.left_end, c.requires.right_end) in
    let rows : Range ℕ = record { start = row; end = end } in
    let left_places : Range ℕ = record { start = row - get_or left_ends j 0; end = end - get_or left_ends j 0 } in
    let right_places : Range ℕ = record { start = row - get_or right_ends k 0; end = end - get_or right_ends k 0 } in
    record {
      some = some;
      left = stands lefts j (get_or left_ends j 0) (get_or left_ends (j + 1) 0) left_places rows c.requires.left_there left_front left_back (omega (arith, left_front, c.requires.left_start)) some
          (omega (arith, c.min-end.ensures)) refl refl;
      right = stands rights k (get_or right_ends k 0) (get_or right_ends (k + 1) 0) right_places rows c.requires.right_there right_front right_back (omega (arith, right_front, c.requires.right_start)) some
          (omega (arith, c.min-end.ensures)) refl refl;
      full = full_of lefts rights j k (get_or left_ends j 0) (get_or left_ends (j + 1) 0) (get_or right_ends k 0) (get_or right_ends (k + 1) 0) end left_places right_places c.requires.left_there c.requires.right_there
          left_front left_back right_front right_back c.min-end.ensures refl refl;
    }
