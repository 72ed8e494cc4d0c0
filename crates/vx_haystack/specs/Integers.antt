-- How far a number is above another, and which sets of numbers are dense.
use Rattle.std.specs.Prelude.{ℕ, ℤ, pos, ◌-◌, ◌*◌, ◌-ℤ◌, Bool, cond, ◌&&◌, ◌||◌, int_le, nat_lt, unsigned_abs, List, [], ◌∷◌, length, Option, Some, None}
use Rattle.std.specs.List.{fold, list_any}
use Rattle.std.specs.Int.{int_max, int_min}
use Rattle.std.specs.Ordering.{int_eq}

-- a less b, and count more where that is below 0
abbrev pub distance : ℕ → ℤ → ℤ → ℕ
distance count a b = cond (int_le b a) (unsigned_abs (a -ℤ b)) (count - unsigned_abs (b -ℤ a))

-- a number where it fits a `usize`
abbrev pub as_usize : ℕ → Option ℕ
as_usize n = cond (nat_lt n 18446744073709551616) (Some n) None

-- the distance, where it fits a `usize`
abbrev pub offset : ℕ → ℤ → ℤ → Option ℕ
offset count a b = as_usize (distance count a b)

-- the least number, of none 0
abbrev pub least : List ℤ → ℤ
least [] = pos 0
least (z ∷ zs) = fold int_min z zs

-- the greatest number, of none 0
abbrev pub greatest : List ℤ → ℤ
greatest [] = pos 0
greatest (z ∷ zs) = fold int_max z zs

-- the greatest number less the least
abbrev pub span : List ℤ → ℕ
span zs = unsigned_abs (greatest zs -ℤ least zs)

-- so many numbers are dense in such a span
abbrev pub is_dense_span : ℕ → ℕ → Bool
is_dense_span width count = nat_lt width 18446744073709551615 && (nat_lt width 4096 || nat_lt width (64 * count))

-- there is a number, and the span is below `usize::MAX`, and below 4096 or below 64 times how many numbers there are
abbrev pub is_dense : List ℤ → Bool
is_dense zs = nat_lt 0 (length zs) && is_dense_span (span zs) (length zs)

-- whether the number is one of them
abbrev pub holds : List ℤ → ℤ → Bool
holds zs z = list_any (λ y. int_eq y z) zs
