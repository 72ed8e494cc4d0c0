-- What selections leave of exceptions, as pairs of a row and what stands there.
use Rattle.std.specs.Prelude.{ℕ, Bool, false, not, cond, List, take, map, slice_index_or, Option, Some, None, option_map}
use Rattle.std.specs.List.{filter, filter_map, enumerate_from}
use Rattle.vx_masks.specs.Bits.{count_true}
use Rattle.vx_patches.specs.Pairs.{value_at}

-- whether a row's bit is true
abbrev pub bit_at : List Bool → ℕ → Bool
bit_at bits row = slice_index_or bits row false

-- the number of true bits before a row
abbrev pub rank : List Bool → ℕ → ℕ
rank bits row = count_true (take row bits)

-- a filter: the pairs whose row has a true bit, each at the number of true bits before its row
abbrev pub kept_pairs : {A : Type 0} → List Bool → List (ℕ × A) → List (ℕ × A)
kept_pairs bits pairs = map (λ p. (rank bits p.0, p.1)) (filter (λ p. bit_at bits p.0) pairs)

-- a mask: the pairs whose row has no true bit
abbrev pub unmasked_pairs : {A : Type 0} → List Bool → List (ℕ × A) → List (ℕ × A)
unmasked_pairs bits pairs = filter (λ p. not (bit_at bits p.0)) pairs

-- what an index names: the value of its row, and where the index is absent nothing, if nulls are wanted
abbrev pub named : {A : Type 0} → Bool → List (ℕ × Option A) → Option ℕ → Option (Option A)
named nulls pairs None = cond nulls (Some None) None
named nulls pairs (Some row) = value_at row pairs

-- a take: each position whose index names something, with what it names
abbrev pub taken_pairs : {A : Type 0} → Bool → List (ℕ × Option A) → List (Option ℕ) → List (ℕ × Option A)
taken_pairs nulls pairs indices = filter_map (λ e. option_map (λ v. (e.0, v)) (named nulls pairs e.1)) (enumerate_from 0 indices)
