-- Masks by their bits.
use Rattle.std.specs.Prelude.{ℕ, Bool, true, false, cond, List, length, Option, Some, None, replicate}
use Rattle.vx_masks.specs.Bits.{all_true, any_true, IsMixed, places_of}
use Rattle.vx_masks.specs.declared.mask.Mask.{Mask}
use Rattle.vx_masks.specs.declared.mask.Mask.TheVariants.{AllTrue, AllFalse, Values}

-- the bits of a mask
abbrev pub bits_of : Mask → List Bool
bits_of (AllTrue len) = replicate len true
bits_of (AllFalse len) = replicate len false
bits_of (Values values) = values.bits

-- a mask of values has bits of both kinds
abbrev pub IsMask : Mask → Type 0
IsMask (AllTrue len) = Unit {0}
IsMask (AllFalse len) = Unit {0}
IsMask (Values values) = IsMixed values.bits

-- the mask of bits: a number where all are true or none is, and else values without cached indices
abbrev pub mask_of : List Bool → Mask
mask_of bits = cond (all_true bits) (AllTrue (length bits)) (cond (any_true bits) (Values (record { bits = bits; is_cached = false })) (AllFalse (length bits)))

-- the mask with its indices cached, where it has values
abbrev pub cached : Mask → Mask
cached (AllTrue len) = AllTrue len
cached (AllFalse len) = AllFalse len
cached (Values values) = Values (record { bits = values.bits; is_cached = true })

-- the places of the true bits, where they are cached
abbrev pub cached_places : Mask → Option (List ℕ)
cached_places (AllTrue len) = None
cached_places (AllFalse len) = None
cached_places (Values values) = cond values.is_cached (Some (places_of values.bits)) None
