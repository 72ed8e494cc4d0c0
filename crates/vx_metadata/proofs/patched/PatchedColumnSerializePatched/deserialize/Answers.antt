use Rattle.std.proofs.Common.{inl}
use Rattle.std.proofs.lemmas.Result.{err_from_is_err_and}
use Rattle.vx_metadata.proofs.PatchedBack.{WireLaws, patched_back, patched_back_err, form_len, made_form, made_cause}
use Rattle.vx_metadata.proofs.patched.PatchedColumnSerializePatched.deserialize.Goals as goal

pub returns-in_err-message-clause-err : goal.returns-in_err-message-clause-err
returns-in_err-message-clause-err g c =
    let p = err_from_is_err_and c.from_residual.result c.from_residual.ensures.1 in
    rw (p.1, p.2) (inl c.in_err-message.ensures.err)

pub returns-in_err-message-clause-back : goal.returns-in_err-message-clause-back
returns-in_err-message-clause-back g c =
    let a = c.args in
    let e = c.in_err-message.field-0.0 in
    let p = err_from_is_err_and c.from_residual.result c.from_residual.ensures.1 in
    let laws : WireLaws = record { back = c.round_trip.ensures.lanes; once = c.one_reading.ensures.fields; apart = c.one_reading.ensures.apart } in
    λ array s is. rw (p.1, p.2) (patched_back_err laws array a.dtype a.len a.metadata.now a.inner a.lane_offsets a.indices a.values s is e (inl c.in_err-message.ensures.err))

pub returns-clause-ok : goal.returns-clause-ok
returns-clause-ok g c =
    let a = c.args in
    let made = c.try_new.ensures in
    made_form a.dtype a.len a.metadata.now a.inner a.lane_offsets a.indices a.values c.in_ok-message.message c.in_ok-message.ensures.ok c.try_new.result made.inner made.lanes made.clean

pub returns-clause-err : goal.returns-clause-err
returns-clause-err g c =
    let a = c.args in
    made_cause a.dtype a.len a.metadata.now a.inner a.lane_offsets a.indices a.values c.in_ok-message.message c.in_ok-message.ensures.ok c.try_new.result c.try_new.ensures.err

pub returns-clause-len : goal.returns-clause-len
returns-clause-len g c =
    let a = c.args in
    form_len a.dtype a.len a.metadata.now a.inner a.lane_offsets a.indices a.values c.try_new.result (returns-clause-ok g c)

pub returns-clause-back : goal.returns-clause-back
returns-clause-back g c =
    let a = c.args in
    let laws : WireLaws = record { back = c.round_trip.ensures.lanes; once = c.one_reading.ensures.fields; apart = c.one_reading.ensures.apart } in
    λ array s is. patched_back laws array a.dtype a.len a.metadata.now a.inner a.lane_offsets a.indices a.values s is c.try_new.result (returns-clause-ok g c) (returns-clause-err g c)
