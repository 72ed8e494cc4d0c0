use Rattle.std.proofs.Common.{◌≡◌, ◌≢◌, ◌∙◌, ◌+◌, ◌++◌, ◌∷◌, [], ℕ, get_or, sym, ap, subst, arith}
use Rattle.vx_base.specs.Checks.{count_below}
use Rattle.vx_masks.specs.Masks.{bits_of}
use Rattle.vx_patches.specs.Places.{rows_of}
use Rattle.vx_patches.proofs.Columns.{rows_number, rows_rise}
use Rattle.vx_patch_select.specs.Plans.{IsKeptTo}
use Rattle.vx_patch_select.proofs.Galloping.{gallop_yes, gallop_no}
use Rattle.vx_patch_select.proofs.kept.keep_row.Goals as goal
use Rattle.vx_patch_select.proofs.kept.keep_row.Goals.{then-first-len+then-at-row+in_ok-push, else-first-len, else-first-len-via-then-first-len+else-at-row, else-first-len-via-else-first-len}

pub returns-clause-kept : goal.returns-clause-kept
returns-clause-kept g c =
    let bits = bits_of c.args.mask.now in
    let rows = rows_of c.args.rows.now in
    let row = c.args.row in
    let rising = rows_rise c.args.rows.now c.len.ensures.sound in
    let size = rows_number c.args.rows.now in
    let first = c.first_from-first.ensures.first in
    let there : ℕ → Type 0 = λ n. get_or rows n 0 ≡ row in
    elim c.if-first-len.branch as (λ _. IsKeptTo bits rows (count_below (row + 1) rows) c.if-first-len.kept) [
      | then-first-len+then-at-row+in_ok-push w ↦
          subst (IsKeptTo bits rows (count_below (row + 1) rows)) (sym w.kept-is)
          (gallop_yes bits rows row c.args.kept.now w.push.new.self rising c.requires.kept c.requires.bit (omega (arith, w.if-first-len.true, c.len.ensures.len, first, size))
          (subst there first (sym w.at.ensures.row ∙ w.if-at-row.true))
          (w.in_ok-push.ensures.places ∙ ap (λ (n : ℕ). c.args.kept.now.places ++ n ∷ []) first)
          (w.in_ok-push.ensures.indices ∙ ap (λ (n : ℕ). c.args.kept.now.indices ++ n ∷ []) c.requires.index))
      | else-first-len w ↦
          subst (IsKeptTo bits rows (count_below (row + 1) rows)) (sym w.kept-is)
          (gallop_no bits rows row c.args.kept.now rising c.requires.kept
          (λ l. elim w.else-first-len.branch as (λ _. get_or rows (count_below row rows) 0 ≢ row) [
            | else-first-len-via-then-first-len+else-at-row v ↦ λ same. v.if-at-row.false (v.at.ensures.row ∙ subst there (sym first) same)
            | else-first-len-via-else-first-len v ↦ absurd (omega (arith, l, v.if-first-len.false, c.len.ensures.len, first, size))
          ]))
    ]
