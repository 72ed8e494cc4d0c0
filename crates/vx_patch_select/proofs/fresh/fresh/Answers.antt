use Rattle.std.proofs.Common.{◌≡◌, ◌∙◌, ap, subst, arith}
use Rattle.std.specs.Prelude.{Option, None}
use Rattle.std.proofs.lemmas.Result.{IfErr-weaker}
use Rattle.vx_rows.specs.declared.error.Rule.{Rule}
use Rattle.vx_rows.specs.declared.error.ColumnError.TheVariants.{OutOfMemory}
use Rattle.vx_base.specs.Column.{Flat}
use Rattle.vx_base.specs.Rules.{Refuses}
use Rattle.vx_patches.specs.Making.{patches_fault}
use Rattle.vx_patch_select.proofs.Numbers.{no_fault}
use Rattle.vx_patch_select.proofs.fresh.fresh.Goals as goal

pub returns-clause-err : goal.returns-clause-err
returns-clause-err c =
    let fault : patches_fault c.args.row_count 0 c.in_ok-column.column c.args.values None ≡ None =
    ap (λ (column : Flat). patches_fault c.args.row_count 0 column c.args.values None) c.in_ok-column.ensures.ok
    ∙ no_fault c.args.row_count c.args.indices.now c.args.values (omega (arith, c.ranges.row_count.fits)) c.requires.some c.requires.rising c.requires.below c.requires.values in
    IfErr-weaker c.new.result _ (λ e. e ≡ OutOfMemory) (λ e why. absurd (subst (λ (o : Option Rule). Refuses o e) fault why)) c.new.ensures.err
