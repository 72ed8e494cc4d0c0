-- Plans: selections of the places of exceptions.
use Rattle.std.specs.Prelude.{ℕ, ◌+◌, ◌≡◌, Bool, List, [], ◌∷◌, take, map, Option, Some}
use Rattle.vx_patches.specs.Places.{Index, rows_of}
use Rattle.vx_patch_select.specs.Selected.{kept_pairs, taken_pairs}
use Rattle.vx_patch_select.specs.declared.plan.Kept.{Kept}
use Rattle.vx_patch_select.specs.declared.plan.Taken.{Taken}

-- rows, each with its place
abbrev pub placed_from : ℕ → List ℕ → List (ℕ × ℕ)
placed_from place [] = []
placed_from place (row ∷ rows) = (row, place) ∷ placed_from (place + 1) rows

abbrev pub placed : List ℕ → List (ℕ × ℕ)
placed rows = placed_from 0 rows

-- the same, each place as one that is there
abbrev pub placed_some : List ℕ → List (ℕ × Option ℕ)
placed_some rows = map (λ p. (p.0, Some p.1)) (placed rows)

-- pairs of a new index and a place as a plan
abbrev pub kept_of : List (ℕ × ℕ) → Kept
kept_of pairs = record { places = map (λ p. p.1) pairs; indices = map (λ p. p.0) pairs }

abbrev pub taken_of : List (ℕ × Option ℕ) → Taken
taken_of pairs = record { places = map (λ p. p.1) pairs; indices = map (λ p. p.0) pairs }

-- a filter's plan, as pairs
abbrev pub planned : List Bool → Index → List (ℕ × ℕ)
planned bits index = kept_pairs bits (placed (rows_of index))

-- what a filter keeps of the first so many exceptions
pub record IsKeptTo (bits : List Bool) (rows : List ℕ) (count : ℕ) (kept : Kept) : Type 0 where
  pub places : kept.places ≡ map (λ p. p.1) (kept_pairs bits (placed (take count rows)))
  pub indices : kept.indices ≡ map (λ p. p.0) (kept_pairs bits (placed (take count rows)))

-- what the first so many indices take
pub record IsTakenTo (nulls : Bool) (rows : List ℕ) (asked : List (Option ℕ)) (count : ℕ) (taken : Taken) : Type 0 where
  pub places : taken.places ≡ map (λ p. p.1) (taken_pairs nulls (placed_some rows) (take count asked))
  pub indices : taken.indices ≡ map (λ p. p.0) (taken_pairs nulls (placed_some rows) (take count asked))
