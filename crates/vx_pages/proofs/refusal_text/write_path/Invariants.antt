use Rattle.std.proofs.Common.{◌≡◌, ◌++◌, drop}
use Rattle.vx_pages.specs.RefusalJson.{whole_json}
use Rattle.vx_pages.proofs.Lists.{tokens_left}
use Rattle.vx_pages.proofs.refusal_text.write_path.Given as goal

-- what is written, and what is left, are the whole list
abbrev pub invariant-loop-number : goal.invariant-loop-number
invariant-loop-number l =
    (l.out.before ≡ l.initial.out.before)
    × (l.out.tokens ++ tokens_left whole_json (drop l.number-index l.numbers)
    ≡ l.initial.out.tokens ++ tokens_left whole_json l.numbers)
