-- What a set of integers holds.
use Rattle.std.specs.Prelude.{ℕ, ℤ, ◌-ℤ◌, Bool, true, false, ◌&&◌, int_le, nat_lt, unsigned_abs, List}
use Rattle.std.specs.List.{list_any}
use Rattle.std.specs.Ordering.{int_eq}
use Rattle.vx_haystack.specs.declared.numbers.Numbers.{Numbers}
use Rattle.vx_haystack.specs.declared.numbers.Numbers.TheVariants.{Bitmap, Sorted}
use Rattle.vx_haystack.specs.declared.numbers.IntegerSet.{IntegerSet}
use Rattle.vx_haystack.specs.Words.{has_bit}

-- whether the place of the number above the least is below the length, and its bit is set
abbrev pub is_marked : List ℕ → ℕ → ℤ → ℤ → Bool
is_marked words len min z = int_le min z && (nat_lt (unsigned_abs (z -ℤ min)) len && has_bit words (unsigned_abs (z -ℤ min)))

abbrev pub numbers_hold : {T : Type 0} → (T → ℤ) → Numbers T → ℤ → Bool
numbers_hold number (Bitmap min len words) z = is_marked words.items len (number min) z
numbers_hold number (Sorted xs) z = list_any (λ x. int_eq (number x) z) xs

-- whether a number is in the set, where `number` is that of a value
abbrev pub has_number : {T : Type 0} → (T → ℤ) → IntegerSet T → ℤ → Bool
has_number number set z = numbers_hold number set.numbers z

abbrev pub are_bits : {T : Type 0} → Numbers T → Bool
are_bits (Bitmap min len words) = true
are_bits (Sorted xs) = false

-- whether the set keeps a bit for each number of its span
abbrev pub is_bitmap : {T : Type 0} → IntegerSet T → Bool
is_bitmap set = are_bits set.numbers
