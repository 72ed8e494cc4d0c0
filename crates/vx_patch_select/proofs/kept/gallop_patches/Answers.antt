use Rattle.std.proofs.Common.{◌≡◌, ◌∙◌, ◌+◌, ◌*◌, ℕ, length, refl, sym, ap, subst, arith}
use Rattle.vx_base.specs.Checks.{count_below}
use Rattle.vx_masks.specs.Masks.{bits_of}
use Rattle.vx_masks.specs.Bits.{count_true}
use Rattle.vx_search.specs.Places.{search_bound}
use Rattle.vx_patches.specs.Places.{rows_of, indices_of}
use Rattle.vx_patches.proofs.Columns.{rows_rise}
use Rattle.vx_patches.proofs.Counts.{count-le}
use Rattle.vx_patch_select.specs.Plans.{IsKeptTo}
use Rattle.vx_patch_select.proofs.Galloping.{StepsOn}
use Rattle.vx_patch_select.proofs.Keeping.{kept_start, kept_all}
use Rattle.vx_patch_select.proofs.Galloping.{none_before, all_before, gallop_unset, rank_yes, rank_no, rank_most, one_more, spent_most}
use Rattle.vx_patch_select.proofs.kept.gallop_patches.Goals as goal
use Rattle.vx_patch_select.proofs.kept.gallop_patches.Goals.{then-value+in_ok-start, else-value}

pub loop-row-init : goal.loop-row-init
loop-row-init g c =
    let bits = bits_of c.args.mask.now in
    let rows = rows_of c.args.rows.now in
    record {
      kept = subst (λ (n : ℕ). IsKeptTo bits rows n c.none-kept.result) (sym (none_before rows)) (kept_start bits rows c.none-kept.result c.none-kept.ensures);
      start = omega arith;
      rank = refl;
      spent = omega arith;
      monotone = omega arith;
    }

pub returns-in_err-start-clause-rise : goal.returns-in_err-start-clause-rise
returns-in_err-start-clause-rise g c =
    let bits = bits_of c.args.mask.now in
    spent_most c.args.steps.now c.loop-row.steps c.keep_row.new.steps c.loop-row.rank (count_true bits) (search_bound (length (indices_of c.args.rows.now)) + 3) c.loop-row.invariant.spent c.in_err-start.ensures.rise
    (omega (arith, c.loop-row.invariant.rank, rank_yes bits c.loop-row.row (omega (arith, c.loop-row-test.true, c.len-row-end.ensures)) (sym c.value.ensures ∙ c.if-value.true), rank_most bits (c.loop-row.row + 1)))

pub loop-row-preserved : goal.loop-row-preserved
loop-row-preserved g c =
    let bits = bits_of c.args.mask.now in
    let rows = rows_of c.args.rows.now in
    let row = c.loop-row.row in
    let cost = search_bound (length (indices_of c.args.rows.now)) + 3 in
    let rising = rows_rise c.args.rows.now c.len-count.ensures.sound in
    let inv = c.loop-row.invariant in
    let more = count-le row (row + 1) rows rising (omega arith) in
    elim c.if-value.branch as (λ _. StepsOn c.args.steps.now cost bits rows (row + 1) c.if-value.kept c.if-value.start c.if-value.rank c.if-value.steps) [
      | then-value+in_ok-start w ↦
          let set = rank_yes bits row (omega (arith, c.loop-row-test.true, c.len-row-end.ensures)) (sym c.value.ensures ∙ w.if-value.true) in
          record {
            kept = subst (IsKeptTo bits rows (count_below (row + 1) rows)) (sym w.kept-is) w.in_ok-start.ensures.kept;
            start = omega (arith, w.start-is, w.in_ok-start.ensures.ok, more);
            rank = w.rank-is ∙ ap (λ (n : ℕ). n + 1) inv.rank ∙ sym set;
            spent = omega (arith, w.steps-is, w.rank-is, one_more c.args.steps.now c.loop-row.steps w.keep_row.new.steps c.loop-row.rank cost inv.spent w.in_ok-start.ensures.rise, ap (λ (n : ℕ). n * cost) w.rank-is);
            monotone = omega (arith, w.steps-is, w.in_ok-start.ensures.monotone, inv.monotone);
          }
      | else-value w ↦
          let unset = rank_no bits row (omega (arith, c.loop-row-test.true, c.len-row-end.ensures)) (sym c.value.ensures ∙ w.if-value.false) in
          record {
            kept = subst (IsKeptTo bits rows (count_below (row + 1) rows)) (sym w.kept-is) (gallop_unset bits rows row c.loop-row.kept rising inv.kept (sym c.value.ensures ∙ w.if-value.false));
            start = omega (arith, w.start-is, inv.start, more);
            rank = w.rank-is ∙ inv.rank ∙ sym unset;
            spent = omega (arith, w.steps-is, ap (λ (n : ℕ). n * cost) w.rank-is, inv.spent);
            monotone = omega (arith, w.steps-is, inv.monotone);
          }
    ]

pub returns-clause-ok : goal.returns-clause-ok
returns-clause-ok g c =
    let bits = bits_of c.args.mask.now in
    let rows = rows_of c.args.rows.now in
    let end : c.loop-row.row ≡ c.args.rows.now.len = omega (arith, c.loop-row-test.false, c.loop-row.auto.row-end, c.len-row-end.ensures, c.requires) in
    let all : count_below c.loop-row.row rows ≡ length rows = ap (λ (n : ℕ). count_below n rows) end ∙ all_before c.args.rows.now c.len-count.ensures.sound in
    kept_all bits rows (count_below c.loop-row.row rows) c.loop-row.kept (omega (arith, all)) c.loop-row.invariant.kept
