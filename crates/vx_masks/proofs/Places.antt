-- Places of true bits.
use Rattle.std.proofs.Common.{arith, ◌∙◌, ap, ◌≡◌, ◌<◌, ◌+◌, ℕ, Bool, true, false, List, [], ◌∷◌, ◌++◌, length, get_or, take}
use Rattle.std.proofs.lemmas.List.{take_more, length-take-le, append-nil}
use Rattle.vx_masks.specs.Bits.{places_from, places_of}

-- the places of two lists, one behind the other
pub places_from-append : (at : ℕ) (bits more : List Bool) → places_from at (bits ++ more) ≡ places_from at bits ++ places_from (at + length bits) more
places_from-append at [] more = ap (λ k. places_from k more) (omega arith)
places_from-append at (true ∷ bits) more =
    ap (λ places. at ∷ places) (places_from-append (at + 1) bits more ∙ ap (λ k. places_from (at + 1) bits ++ places_from k more) (omega arith))
places_from-append at (false ∷ bits) more =
    places_from-append (at + 1) bits more ∙ ap (λ k. places_from (at + 1) bits ++ places_from k more) (omega arith)

-- one bit more
places_more : (bits : List Bool) (i : ℕ) (b d : Bool) → i < length bits → get_or bits i d ≡ b → places_of (take (i + 1) bits) ≡ places_of (take i bits) ++ places_from i (b ∷ [])
places_more bits i b d h e =
    let long : 0 + length (take i bits) ≡ i = omega (arith, length-take-le i bits (omega arith)) in
    ap places_of (take_more bits i d h ∙ ap (λ x. take i bits ++ x ∷ []) e)
    ∙ places_from-append 0 (take i bits) (b ∷ [])
    ∙ ap (λ k. places_from 0 (take i bits) ++ places_from k (b ∷ [])) long

pub places_yes : (bits : List Bool) (i : ℕ) (d : Bool) → i < length bits → get_or bits i d ≡ true → places_of (take (i + 1) bits) ≡ places_of (take i bits) ++ i ∷ []
places_yes bits i d h e = places_more bits i true d h e

pub places_no : (bits : List Bool) (i : ℕ) (d : Bool) → i < length bits → get_or bits i d ≡ false → places_of (take (i + 1) bits) ≡ places_of (take i bits)
places_no bits i d h e = places_more bits i false d h e ∙ append-nil (places_of (take i bits))
