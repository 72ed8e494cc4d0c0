-- Ranges of rows that lie in one chunk on both sides.
use Rattle.std.proofs.Common.{arith, refl, sym, ◌∙◌, ap, subst, inl, inr, min, zero-add, ◌≡◌, ◌⊎◌, ◌+◌, ◌-◌, ◌≤◌, ◌<◌, ℕ, List, [], ◌∷◌, ◌++◌, length, take, get_or, Option, Some, None}
use Rattle.std.specs.List.{All}
use Rattle.std.proofs.lemmas.List.Elements.{All-push, All-tail}
use Rattle.std.specs.Iterator.{YieldsFirst}
use Rattle.std.specs.declared.ops.Range.{Range}
use Rattle.vx_chunks.specs.Bounds.{total, running}
use Rattle.vx_chunks.proofs.Sums.{length-running, get_or-running, total-take_all, total-take_le, total-take_more, total-take_mono}
use Rattle.vx_pairs.specs.declared.paired.PairedRange.{PairedRange}
use Rattle.vx_pairs.specs.Pairs.{StandsIn, IsPair, Cover}

-- a chunk that starts at or before a row is one of them
pub walk_within : (lens : List ℕ) (k row : ℕ) → total (take k lens) ≤ row → row < total lens → k < length lens
walk_within lens k row h i = by_order (order k (length lens))
  where
    order : (a b : ℕ) → (a < b) ⊎ (b ≤ a)
    order a b = grind arith

    by_order : (k < length lens) ⊎ (length lens ≤ k) → k < length lens
    by_order (inl l) = l
    by_order (inr l) = absurd (omega (arith, h, i, total-take_mono lens (length lens) k l, total-take_all lens))

-- an end, as the code reads it
pub end_at : (ends lens : List ℕ) (k : ℕ) → ends ≡ running 0 lens → k ≤ length lens → get_or ends k 0 ≡ total (take k lens)
end_at ends lens k e h = ap (λ (ns : List ℕ). get_or ns k 0) e ∙ get_or-running 0 lens k 0 h ∙ zero-add (total (take k lens))

pub ends_long : (ends lens : List ℕ) → ends ≡ running 0 lens → length ends ≡ length lens + 1
ends_long ends lens e = ap length e ∙ length-running 0 lens

-- rows of a chunk, by its boundaries
pub stands : (lens : List ℕ) (k front back : ℕ) (places rows : Range ℕ) → k < length lens → front ≡ total (take k lens) → back ≡ total (take (k + 1) lens) →
    front ≤ rows.start → rows.start < rows.end → rows.end ≤ back → places.start ≡ rows.start - front → places.end ≡ rows.end - front → StandsIn lens k places rows
stands lens k front back places rows h f b low some high s e = record {
  there = h;
  inside = omega (arith, total-take_more lens k 0 h);
  start = omega arith;
  end = omega arith;
}

pub lesser : (a b e : ℕ) → e ≡ min a b → (e ≡ a) ⊎ (e ≡ b)
lesser a b e h = grind arith

-- the range ends where the chunk does
pub full_at : (lens : List ℕ) (k front back end : ℕ) (places : Range ℕ) → k < length lens → front ≡ total (take k lens) → back ≡ total (take (k + 1) lens) →
    end ≡ back → places.end ≡ end - front → places.end ≡ get_or lens k 0
full_at lens k front back end places h f b e p = omega (arith, total-take_more lens k 0 h)

-- the range ends where one of two chunks does
pub full_of : (lens others : List ℕ) (j k front back other_front other_back end : ℕ) (places other_places : Range ℕ) → j < length lens → k < length others →
    front ≡ total (take j lens) → back ≡ total (take (j + 1) lens) → other_front ≡ total (take k others) → other_back ≡ total (take (k + 1) others) → end ≡ min back other_back →
    places.end ≡ end - front → other_places.end ≡ end - other_front → (places.end ≡ get_or lens j 0) ⊎ (other_places.end ≡ get_or others k 0)
full_of lens others j k front back other_front other_back end places other_places h i f b g d m p q = by_end (lesser back other_back end m)
  where
    by_end : (end ≡ back) ⊎ (end ≡ other_back) → (places.end ≡ get_or lens j 0) ⊎ (other_places.end ≡ get_or others k 0)
    by_end (inl same) = inl (full_at lens j front back end places h f b same p)
    by_end (inr same) = inr (full_at others k other_front other_back end other_places i g d same q)

pub stand_within : (lens : List ℕ) (k : ℕ) (places rows : Range ℕ) → StandsIn lens k places rows → rows.end ≤ total lens
stand_within lens k places rows s = omega (arith, s.end, s.inside, total-take_more lens k 0 s.there, total-take_le lens (k + 1))

pub pair_within : (lens others : List ℕ) (p : PairedRange) → IsPair lens others p → p.pos.end ≤ total lens
pair_within lens others p is = stand_within lens p.left_chunk p.left p.pos is.left

-- one range more
pub cover_more : (from : ℕ) (pairs : List PairedRange) (p : PairedRange) → Cover from p.pos.start pairs → Cover from p.pos.end (pairs ++ p ∷ [])
cover_more from [] p h = (sym h, refl)
cover_more from (q ∷ pairs) p h = (h.0, cover_more q.pos.end pairs p h.1)

pub each_more : (lens others : List ℕ) (pairs : List PairedRange) (p : PairedRange) → All (IsPair lens others) pairs → IsPair lens others p → All (IsPair lens others) (pairs ++ p ∷ [])
each_more lens others pairs p all is = All-push (IsPair lens others) pairs p all is

-- what holds of all ranges holds of those that a step leaves
pub each_left : (P : PairedRange → Type 0) (before after : List PairedRange) (step : Option PairedRange) → All P before → YieldsFirst {S = List PairedRange} (λ rest. rest) before step after → All P after
each_left P before after None all none = subst (All P) (none.0 ∙ sym none.1) all
each_left P before after (Some range) all first = All-tail P range after (subst (All P) first all)
