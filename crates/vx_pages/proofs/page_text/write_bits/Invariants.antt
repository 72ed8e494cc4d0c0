use Rattle.std.proofs.Common.{◌≡◌, ◌++◌, drop}
use Rattle.vx_pages.specs.PageJson.{bit_json}
use Rattle.vx_pages.proofs.Lists.{tokens_left}
use Rattle.vx_pages.proofs.page_text.write_bits.Given as goal

-- what is written, and what is left, are the whole list
abbrev pub invariant-loop-bit : goal.invariant-loop-bit
invariant-loop-bit l =
    (l.out.before ≡ l.initial.out.before)
    × (l.out.tokens ++ tokens_left bit_json (drop l.bit-index l.bits)
    ≡ l.initial.out.tokens ++ tokens_left bit_json l.bits)
