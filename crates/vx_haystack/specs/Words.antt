-- Bits that are packed in words of 64.
use Rattle.std.specs.Prelude.{ℕ, ◌/◌, ◌%◌, Bool, List, nat_eq, get_or}
use Rattle.std.specs.Int.{bit_at}

-- whether the bit of this place is set; beyond the words none is
abbrev pub has_bit : List ℕ → ℕ → Bool
has_bit words i = nat_eq (bit_at (get_or words (i / 64) 0) (i % 64)) 1
