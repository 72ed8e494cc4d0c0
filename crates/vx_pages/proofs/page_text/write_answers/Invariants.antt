use Rattle.std.proofs.Common.{◌≡◌, ◌++◌, drop}
use Rattle.vx_pages.specs.PageJson.{answer_json}
use Rattle.vx_pages.proofs.Lists.{tokens_left}
use Rattle.vx_pages.proofs.page_text.write_answers.Given as goal

-- what is written, and what is left, are the whole list
abbrev pub invariant-loop-answer : goal.invariant-loop-answer
invariant-loop-answer l =
    (l.out.before ≡ l.initial.out.before)
    × (l.out.tokens ++ tokens_left answer_json (drop l.answer-index l.answers)
    ≡ l.initial.out.tokens ++ tokens_left answer_json l.answers)
