use Rattle.std.proofs.Common.{◌≡◌, subst}
use Rattle.std.specs.Prelude.{Option}
use Rattle.std.proofs.lemmas.Result.{IfErr-weaker}
use Rattle.vx_rows.specs.declared.error.Rule.{Rule}
use Rattle.vx_rows.specs.declared.error.ColumnError.TheVariants.{OutOfMemory}
use Rattle.vx_base.specs.Rules.{Refuses}
use Rattle.vx_patch_select.proofs.Unmasking.{left_no_fault}
use Rattle.vx_patch_select.proofs.unmask.pick_left.Goals as goal

pub returns-clause-err : goal.returns-clause-err
returns-clause-err g c =
    let fault =
    left_no_fault c.args.patches.now c.array_len-row_count.ensures.sound c.args.places.now c.requires.some c.requires.rising c.requires.within c.array_len-row_count.result c.offset-offset.result
    c.indices.result.now c.in_ok-indices.indices c.in_ok-values.values c.in_ok-picked.picked c.values.result.now c.array_len-row_count.ensures.len c.offset-offset.ensures c.indices.ensures c.in_ok-indices.ensures.ok
    c.in_ok-picked.ensures.ok c.in_ok-values.ensures.ok in
    IfErr-weaker c.new.result _ (λ e. e ≡ OutOfMemory) (λ e why. absurd (subst (λ (o : Option Rule). Refuses o e) fault why)) c.new.ensures.err
