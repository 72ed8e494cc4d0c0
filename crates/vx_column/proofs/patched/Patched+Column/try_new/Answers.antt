use Rattle.std.proofs.Common.{◌≡◌, ◌∙◌, ap, sym, subst, inr, Some, None, true, ℕ}
use Rattle.std.proofs.lemmas.Result.{IfOk-weaker, err_from_is_err_and}
use Rattle.vx_rows.specs.declared.dtype.DType.{DType}
use Rattle.vx_base.specs.Numbers.{is_integer}
use Rattle.vx_lanes.specs.Layouts.{layout}
use Rattle.vx_lanes.specs.Rules.{IsFirstBroken}
use Rattle.vx_job.specs.Faults.Fault.{Broken}
use Rattle.vx_column.specs.Columns.{type_of}
use Rattle.vx_column.proofs.Faulty.{layout_told, fault_broken, fault_none}
use Rattle.vx_column.proofs.patched.Patched+Column.try_new.Goals as goal

pub returns-in_err-lanes-clause-err : goal.returns-in_err-lanes-clause-err
returns-in_err-lanes-clause-err g c =
    let a = c.args in
    let p = err_from_is_err_and c.from_residual.result c.from_residual.ensures.1 in
    let integer : is_integer (type_of a.inner) ≡ true = ap is_integer (sym c.dtype.ensures) ∙ sym c.is_integer.ensures ∙ c.if-not-is_integer.false in
    let told = layout_told c.dtype-2.result.now (layout c.len-len.result a.n_lanes a.offset a.lane_offsets a.indices a.values) c.in_err-lanes.field-0.0 c.in_err-lanes.ensures.err in
    let typed = subst (λ (t : DType). IsFirstBroken t (layout c.len-len.result a.n_lanes a.offset a.lane_offsets a.indices a.values) (Some told.0)) c.dtype-2.ensures told.2 in
    let broke = subst (λ (n : ℕ). IsFirstBroken (type_of a.inner) (layout n a.n_lanes a.offset a.lane_offsets a.indices a.values) (Some told.0)) c.len-len.ensures typed in
    rw (p.1, p.2) (inr (Broken told.0, told.1, fault_broken (is_integer (type_of a.inner)) _ told.0 integer broke))

pub returns-clause-clean : goal.returns-clause-clean
returns-clause-clean g c =
    let a = c.args in
    let integer : is_integer (type_of a.inner) ≡ true = ap is_integer (sym c.dtype.ensures) ∙ sym c.is_integer.ensures ∙ c.if-not-is_integer.false in
    let typed = subst (λ (t : DType). IsFirstBroken t (layout c.len-len.result a.n_lanes a.offset a.lane_offsets a.indices a.values) None) c.dtype-2.ensures c.in_ok-lanes.ensures.clean in
    let clean = subst (λ (n : ℕ). IsFirstBroken (type_of a.inner) (layout n a.n_lanes a.offset a.lane_offsets a.indices a.values) None) c.len-len.ensures typed in
    let all = fault_none (is_integer (type_of a.inner)) _ integer clean in
    IfOk-weaker c.of.result _ _ (λ array _. all) c.of.ensures.sound
