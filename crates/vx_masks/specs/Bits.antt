-- Lists of bits.
use Rattle.std.specs.Prelude.{ℕ, ◌+◌, ◌*◌, ◌/◌, Bool, cond, ◌&&◌, List, [], ◌∷◌, length, take, map, nat_eq, nat_lt, nat_le, count_by, IsTrue, IsFalse}
use Rattle.std.specs.List.{list_all, list_any, range_with_len}

-- whether every bit is true
abbrev pub all_true : List Bool → Bool
all_true bits = list_all (λ b. b) bits

-- whether some bit is true
abbrev pub any_true : List Bool → Bool
any_true bits = list_any (λ b. b) bits

-- some bit is true, and some bit isn't
abbrev pub IsMixed : List Bool → Type 0
IsMixed bits = IsFalse (all_true bits) × IsTrue (any_true bits)

-- how many bits are true
abbrev pub count_true : List Bool → ℕ
count_true bits = count_by (λ b. b) bits

-- the places of the true bits in rising order, where the first bit stands at a place
abbrev pub places_from : ℕ → List Bool → List ℕ
places_from at [] = []
places_from at (b ∷ bits) = cond b (at ∷ places_from (at + 1) bits) (places_from (at + 1) bits)

-- the places of the true bits in rising order
abbrev pub places_of : List Bool → List ℕ
places_of bits = places_from 0 bits

-- the rows whose bit is true, in order
abbrev pub kept : {X : Type 0} → List X → List Bool → List X
kept [] bits = []
kept (row ∷ rows) [] = []
kept (row ∷ rows) (b ∷ bits) = cond b (row ∷ kept rows bits) (kept rows bits)

-- so many bits, true at the indices
abbrev pub bits_at : ℕ → List ℕ → List Bool
bits_at len indices = map (λ i. list_any (nat_eq i) indices) (range_with_len 0 len)

-- whether a place is from the start of a slice to below its end
abbrev pub is_within : ℕ → ℕ × ℕ → Bool
is_within i slice = nat_le slice.0 i && nat_lt i slice.1

-- so many bits, true from the start of each slice to below its end
abbrev pub bits_in : ℕ → List (ℕ × ℕ) → List Bool
bits_in len slices = map (λ i. list_any (is_within i) slices) (range_with_len 0 len)

-- how many bits are true before each 512th one
abbrev pub ranks_of : List Bool → List ℕ
ranks_of bits = map (λ block. count_true (take (block * 512) bits)) (range_with_len 0 (length bits / 512 + 1))
