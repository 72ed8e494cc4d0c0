use Rattle.std.proofs.Common.{◌<◌, ◌/◌, length, arith}
use Rattle.vx_patches.specs.Places.{indices_of}
use Rattle.vx_patches.specs.Search.{search_cost}
use Rattle.vx_patches.proofs.Columns.{rows_number}
use Rattle.vx_patch_select.proofs.Asking.{few_cost}
use Rattle.vx_patch_select.proofs.Mapped.{pairs_number}
use Rattle.vx_patch_select.proofs.take.by_count.Goals as goal

pub returns-then-num_patches-len-clause-rise : goal.returns-then-num_patches-len-clause-rise
returns-then-num_patches-len-clause-rise g c =
    let o = c.args.patches.now in
    let sound = c.array_len-row_count.ensures.sound in
    let m = length (indices_of o.index) in
    let n = length c.args.indices.now.rows in
    let fewer : m / 5 < n = omega (arith, c.num_patches.ensures, pairs_number o sound, rows_number o.index, c.len.ensures, c.if-num_patches-len.true) in
    few_cost c.args.steps.now c.by_map.new.steps m n (search_cost o.index) fewer c.by_map.ensures.rise
