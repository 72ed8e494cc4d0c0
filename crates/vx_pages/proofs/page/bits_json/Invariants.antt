use Rattle.std.proofs.Common.{◌≡◌, map, take}
use Rattle.serde_json.specs.View.{view}
use Rattle.vx_pages.specs.PageJson.{bit_json}
use Rattle.vx_pages.proofs.page.bits_json.Given as goal

abbrev pub invariant-loop-bit : goal.invariant-loop-bit
invariant-loop-bit l = map view l.values.items ≡ map bit_json (take l.bit-index l.bits)
