use Rattle.vx_json_rows.proofs.Readings.{has_len_yes, has_len_no}
use Rattle.std.proofs.Common.{sym, ◌∙◌}
use Rattle.vx_json_rows.proofs.forms.has_keys.Goals as goal

pub returns-then-len-keys : goal.returns-then-len-keys
returns-then-len-keys c = has_len_yes _ c.in-Some.members.now.entries _ c.in-Some.ensures (sym c.len.ensures.len
    ∙ c.if-len-keys.true)

pub returns-else-len-keys : goal.returns-else-len-keys
returns-else-len-keys c = has_len_no _ c.in-Some.members.now.entries _ c.in-Some.ensures (λ h. c.if-len-keys.false
    (c.len.ensures.len ∙ h))
