-- What texts write: the unscaled numbers of decimals, and bytes.
use Rattle.std.specs.Prelude.{ℕ, ◌^◌, Bool, ◌&&◌, ◌||◌, nat_lt, ℤ, pos, negsuc, List, drop, codes, bytes_eq}
use Rattle.std.specs.Prelude.{slice_index, if◌then◌else◌, Option, Some, None, Result, Ok, Err}
use Rattle.std.specs.Str.{all_ascii_digits}
use Rattle.std.specs.Str.Parse.{starts_with_minus, signed_digits_value}
use Rattle.hex.specs.declared.error.FromHexError.{FromHexError}
use Rattle.hex.specs.Hex.{decode_of}

-- digits, of which the first is there and isn't 0
abbrev pub is_count : List ℕ → Bool
is_count s = nat_lt 48 (slice_index s 0) && all_ascii_digits s

-- the same without a `-` in front
abbrev pub without_minus : List ℕ → List ℕ
without_minus s = if starts_with_minus s then drop 1 s else s

-- `0`, or digits without a leading zero, which may stand behind a `-`
abbrev pub is_unscaled : List ℕ → Bool
is_unscaled s = bytes_eq s (codes "0") || is_count (without_minus s)

-- the numbers that 128 bits hold
abbrev pub fits_128 : ℤ → Bool
fits_128 (pos n) = nat_lt n (2 ^ 127)
fits_128 (negsuc n) = nat_lt n (2 ^ 127)

-- a number where 128 bits hold it
abbrev pub bounded : ℤ → Option ℤ
bounded z = if fits_128 z then Some z else None

-- the number that such a text writes
abbrev pub unscaled_of : List ℕ → Option ℤ
unscaled_of s = if is_unscaled s then bounded (signed_digits_value 10 s) else None

-- what was read, where nothing was wrong
abbrev pub decoded : Result (List ℕ) FromHexError → Option (List ℕ)
decoded (Ok bytes) = Some bytes
decoded (Err e) = None

-- the bytes that a hexadecimal text writes, in either case
abbrev pub bytes_of : List ℕ → Option (List ℕ)
bytes_of s = decoded (decode_of s)
