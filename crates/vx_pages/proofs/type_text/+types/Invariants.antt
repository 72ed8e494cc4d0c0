use Rattle.std.proofs.Common.{◌≡◌, ◌++◌, drop}
use Rattle.vx_pages.specs.TypeJson.{field_json}
use Rattle.vx_pages.proofs.Lists.{tokens_left}
use Rattle.vx_pages.proofs.type_text.+types.Given as goal

-- what is written, and what is left, are the whole list
abbrev pub invariant-write_fields-loop-name : goal.invariant-write_fields-loop-name
invariant-write_fields-loop-name l =
    (l.out.before ≡ l.initial.out.before)
    × (l.out.tokens ++ tokens_left field_json (drop l.name-index l.fields.list)
    ≡ l.initial.out.tokens ++ tokens_left field_json l.fields.list)
