use Rattle.std.proofs.Common.{ℕ, ◌≡◌, ◌/◌, ◌<◌, take, length}
use Rattle.vx_haystack.specs.Words.{has_bit}
use Rattle.vx_haystack.proofs.Marks.{is_place}
use Rattle.vx_haystack.proofs.numbers.dense_numbers.Given as goal

abbrev pub invariant-loop-value : goal.invariant-loop-value
invariant-loop-value g l = record {
  room : l.width / 64 < length l.words.items;
  bits : (i : ℕ) → has_bit l.words.items i ≡ is_place g.T.SetInteger.number (g.T.SetInteger.number l.min) (take l.value-index l.values) i;
}
