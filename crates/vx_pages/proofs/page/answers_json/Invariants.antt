use Rattle.std.proofs.Common.{◌≡◌, map, take}
use Rattle.serde_json.specs.View.{view}
use Rattle.vx_pages.specs.PageJson.{answer_json}
use Rattle.vx_pages.proofs.page.answers_json.Given as goal

abbrev pub invariant-loop-answer : goal.invariant-loop-answer
invariant-loop-answer l = map view l.values.items ≡ map answer_json (take l.answer-index l.answers)
