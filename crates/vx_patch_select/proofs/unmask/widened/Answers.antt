use Rattle.std.proofs.Common.{sym, subst}
use Rattle.std.specs.Prelude.{Result, IsOkUnless}
use Rattle.vx_rows.specs.declared.error.ColumnError.{ColumnError}
use Rattle.vx_rows.specs.declared.error.ColumnError.TheVariants.{OutOfMemory}
use Rattle.vx_base.specs.Column.{Flat}
use Rattle.vx_patches.specs.Pairs.{Overlay, mapped}
use Rattle.vx_patch_select.proofs.Unmasking.{mapped_all}
use Rattle.vx_patch_select.proofs.unmask.widened.Goals as goal

pub returns-clause-err : goal.returns-clause-err
returns-clause-err g c =
    let (values, post, is) = c.map_values.ensures in
    let shared = c.in_ok-share.field-0 in
    subst (λ (r : Result Overlay ColumnError). IsOkUnless r OutOfMemory) (sym is)
    (subst (λ (v : Result Flat ColumnError). IsOkUnless (mapped shared v) OutOfMemory) (sym post.1)
    (mapped_all c.args.patches.now shared c.values.result.now c.in_ok-values.values c.array_len-row_count.ensures.sound c.in_ok-share.ensures.ok c.values.ensures c.in_ok-values.ensures.ok))
