use Rattle.std.proofs.Common.{◌≡◌, ◌∙◌, ℕ, ap, true, replicate}
use Rattle.std.proofs.lemmas.Result.{IfOk-weaker}
use Rattle.vx_base.specs.Column.{Flat, flat}
use Rattle.vx_bulk.specs.Types.{nullable}
use Rattle.vx_patch_select.proofs.Widening.{all_masked}
use Rattle.vx_patch_select.proofs.widen.widened_values.Goals as goal

pub returns-clause-ok : goal.returns-clause-ok
returns-clause-ok g c =
    let v = c.args.values.now in
    let bits = c.as_slice.result.now in
    let same = all_masked v.rows bits (c.as_slice.ensures.value ∙ c.in_ok-keep.ensures.ok ∙ ap (λ (n : ℕ). replicate n true) c.len.ensures) in
    IfOk-weaker c.mask.result _ (λ (w : Flat). w ≡ flat (nullable v.dtype) v.rows) (λ w e. e ∙ ap (flat (nullable v.dtype)) same) c.mask.ensures.ok
