use Rattle.std.proofs.Common.{sym, subst}
use Rattle.vx_rows.specs.Types.{AlikeTypes}
use Rattle.vx_lanes.proofs.Sound.{sound, alike_tells, alike_integer}
use Rattle.vx_lanes.proofs.lanes.Lanes.try_new.Goals as goal

pub invariant_of-result : goal.invariant_of-result
invariant_of-result g c =
    let alike : AlikeTypes c.args.values.dtype c.args.dtype.now =
    subst (λ s. AlikeTypes s c.args.dtype.now) c.dtype.ensures.dtype (c.eq_ignore_nullability-alike.ensures.0 (alike_tells _ _ (sym c.in-None.ensures.first))) in
    sound _ _ (alike_integer c.args.values.dtype c.args.dtype.now alike c.requires) (sym c.in-None.ensures.first)

pub returns-in-None-clause-alike : goal.returns-in-None-clause-alike
returns-in-None-clause-alike g c =
    subst (λ s. AlikeTypes s c.args.dtype.now) c.dtype.ensures.dtype (c.eq_ignore_nullability-alike.ensures.0 (alike_tells _ _ (sym c.in-None.ensures.first)))

pub returns-in-None-clause-sound : goal.returns-in-None-clause-sound
returns-in-None-clause-sound g c =
    let alike : AlikeTypes c.args.values.dtype c.args.dtype.now =
    subst (λ s. AlikeTypes s c.args.dtype.now) c.dtype.ensures.dtype (c.eq_ignore_nullability-alike.ensures.0 (alike_tells _ _ (sym c.in-None.ensures.first))) in
    sound _ _ (alike_integer c.args.values.dtype c.args.dtype.now alike c.requires) (sym c.in-None.ensures.first)
