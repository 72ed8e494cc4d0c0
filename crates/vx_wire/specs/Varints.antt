-- Base-128 varints: groups of seven bits, the least group first.
use Rattle.std.specs.Prelude.{◌≡◌, ℕ, zero, suc, ◌+◌, ◌*◌, ◌/◌, ◌%◌, ◌^◌, ◌<◌, ◌≤◌, List, [], ◌∷◌, ◌++◌, length, nat_lt, if◌then◌else◌}
use Rattle.std.specs.List.{AllByRecursion}
use Rattle.vx_rows.specs.declared.error.WireFault.{WireFault}
use Rattle.vx_rows.specs.declared.error.WireFault.TheVariants.{Truncated, BadVarint}

-- the number that bytes stand for: the sum of (byte mod 128) * 128^i
abbrev pub number_of : List ℕ → ℕ
number_of [] = 0
number_of (b ∷ bytes) = b % 128 + 128 * number_of bytes

-- after such a byte more of the number comes
abbrev pub GoesOn : ℕ → Type 0
GoesOn b = 128 ≤ b

-- each byte but the last goes on
abbrev pub IsWhole : List ℕ → Type 0
IsWhole [] = ⊥
IsWhole (b ∷ []) = b < 128
IsWhole (b ∷ c ∷ bytes) = GoesOn b × IsWhole (c ∷ bytes)

-- one to ten bytes, whose number is one of 64 bits
pub record IsVarint (bytes : List ℕ) : Type 0 where
  pub whole : IsWhole bytes
  pub short : length bytes ≤ 10
  pub fits : number_of bytes < 2 ^ 64

-- the bytes begin with a varint of this number, and these follow
pub record VarintAt (bytes : List ℕ) (number : ℕ) (after : List ℕ) : Type 0 where
  pub spelled : List ℕ
  pub varint : IsVarint spelled
  pub value : number ≡ number_of spelled
  pub joined : bytes ≡ spelled ++ after

-- fewer than ten bytes, all of which go on
abbrev pub EndsWithin : List ℕ → Type 0
EndsWithin bytes = AllByRecursion GoesOn bytes × (length bytes < 10)

-- nine bytes that go on, and a tenth of 2 or more
pub record IsTooLong (bytes : List ℕ) : Type 0 where
  pub front : List ℕ
  pub tenth : ℕ
  pub after : List ℕ
  pub goes_on : AllByRecursion GoesOn front
  pub nine : length front ≡ 9
  pub above : 2 ≤ tenth
  pub joined : bytes ≡ front ++ tenth ∷ after

-- why the bytes begin with no varint
abbrev pub IsVarintFault : List ℕ → WireFault → Type 0
IsVarintFault bytes Truncated = EndsWithin bytes
IsVarintFault bytes BadVarint = IsTooLong bytes
IsVarintFault bytes _ = ⊥

-- a number in the fewest bytes, with at most so many before the last one
abbrev pub groups : ℕ → ℕ → List ℕ
groups zero n = n ∷ []
groups (suc more) n = if nat_lt n 128 then n ∷ [] else (n % 128 + 128) ∷ groups more (n / 128)

-- a number of 64 bits in the fewest bytes
unfoldable pub varint : ℕ → List ℕ
varint n = groups 9 n
