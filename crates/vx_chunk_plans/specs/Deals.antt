-- What is dealt out to chunks.
use Rattle.std.specs.Prelude.{ℕ, zero, suc, ◌+◌, ◌==◌, ◌&&◌, Bool, true, nat_le, cond, List, [], ◌∷◌, Option, Some, None}

-- what is dealt to chunk k, in order, of things that each name their chunk
abbrev pub bucket_of : {X : Type 0} → ℕ → List (ℕ × X) → List X
bucket_of k [] = []
bucket_of k (s ∷ spots) = cond (s.0 == k) (s.1 ∷ bucket_of k spots) (bucket_of k spots)

-- the same for n chunks from chunk k on
abbrev pub dealt : {X : Type 0} → ℕ → ℕ → List (ℕ × X) → List (List X)
dealt k zero spots = []
dealt k (suc n) spots = bucket_of k spots ∷ dealt (k + 1) n spots

-- whether no chunk comes before the one before it, and none before chunk k
abbrev pub in_turn : {X : Type 0} → ℕ → List (ℕ × X) → Bool
in_turn k [] = true
in_turn k (s ∷ spots) = nat_le k s.0 && in_turn s.0 spots

-- those that are not absent
abbrev pub present : {X : Type 0} → List (Option X) → List X
present [] = []
present (None ∷ entries) = present entries
present (Some x ∷ entries) = x ∷ present entries
