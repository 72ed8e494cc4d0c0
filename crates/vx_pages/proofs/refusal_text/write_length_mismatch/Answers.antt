use Rattle.std.proofs.lemmas.Result.{on_ok_weaker}
use Rattle.vx_pages.proofs.Joins.{three_joined}
use Rattle.vx_pages.proofs.refusal_text.write_length_mismatch.Goals as goal

pub returns-clause-ok : goal.returns-clause-ok
returns-clause-ok c =
    on_ok_weaker c.end_count.result (λ e.
    three_joined _ _ _ _ _ _ _ c.in_ok-open_error.ensures.ok c.in_ok-write_count.ensures.ok e) c.end_count.ensures.ok
