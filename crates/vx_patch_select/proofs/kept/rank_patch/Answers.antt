use Rattle.std.proofs.Common.{◌∙◌, ◌+◌, ◌++◌, ◌∷◌, [], ℕ, sym, ap, subst, arith}
use Rattle.vx_masks.specs.Masks.{bits_of}
use Rattle.vx_patches.specs.Places.{rows_of}
use Rattle.vx_patches.proofs.Columns.{rows_number}
use Rattle.vx_patch_select.specs.Plans.{IsKeptTo}
use Rattle.vx_patch_select.proofs.Keeping.{kept_yes, kept_no}
use Rattle.vx_patch_select.proofs.kept.rank_patch.Goals as goal
use Rattle.vx_patch_select.proofs.kept.rank_patch.Goals.{then-value+in_ok-push, else-value}

pub returns-clause-kept : goal.returns-clause-kept
returns-clause-kept g c =
    let bits = bits_of c.args.mask.now in
    let rows = rows_of c.args.rows.now in
    elim c.if-value.branch as (λ _. IsKeptTo bits rows (c.args.place + 1) c.if-value.kept) [
      | then-value+in_ok-push w ↦
          subst (IsKeptTo bits rows (c.args.place + 1)) (sym w.kept-is)
          (kept_yes bits rows c.args.place c.at-row.result c.args.kept.now w.push.new.self c.requires.kept (omega (arith, c.requires.inside, rows_number c.args.rows.now)) c.at-row.ensures.row
          (sym c.value.ensures ∙ w.if-value.true) w.in_ok-push.ensures.places (w.in_ok-push.ensures.indices ∙ ap (λ (n : ℕ). c.args.kept.now.indices ++ n ∷ []) w.rank.ensures))
      | else-value w ↦
          subst (IsKeptTo bits rows (c.args.place + 1)) (sym w.kept-is)
          (kept_no bits rows c.args.place c.at-row.result c.args.kept.now c.requires.kept (omega (arith, c.requires.inside, rows_number c.args.rows.now)) c.at-row.ensures.row (sym c.value.ensures ∙ w.if-value.false))
    ]
