-- Which rows are present.
use Rattle.std.specs.Prelude.{◌≡◌, ℕ, Bool, true, false, cond, List, [], ◌∷◌, length, Option, Some, None, replicate, sum_by}
use Rattle.std.specs.List.{list_all, flat_map}
use Rattle.vx_masks.specs.declared.validity.Validity.{Validity}
use Rattle.vx_masks.specs.declared.validity.Validity.TheVariants.{NonNullable, AllValid, AllInvalid, Array}

-- whether so many rows are present, a bit for each
abbrev pub valid_bits : Validity → ℕ → List Bool
valid_bits NonNullable len = replicate len true
valid_bits AllValid len = replicate len true
valid_bits AllInvalid len = replicate len false
valid_bits (Array bits) len = bits

-- an array has a bit for each of so many rows
abbrev pub HasBits : Validity → ℕ → Type 0
HasBits NonNullable len = Unit {0}
HasBits AllValid len = Unit {0}
HasBits AllInvalid len = Unit {0}
HasBits (Array bits) len = length bits ≡ len

abbrev pub is_non_nullable : Validity → Bool
is_non_nullable NonNullable = true
is_non_nullable AllValid = false
is_non_nullable AllInvalid = false
is_non_nullable (Array bits) = false

abbrev pub is_all_valid : Validity → Bool
is_all_valid NonNullable = false
is_all_valid AllValid = true
is_all_valid AllInvalid = false
is_all_valid (Array bits) = false

abbrev pub is_all_invalid : Validity → Bool
is_all_invalid NonNullable = false
is_all_invalid AllValid = false
is_all_invalid AllInvalid = true
is_all_invalid (Array bits) = false

-- the bits of all entries, one behind the other
abbrev pub joined_bits : List (Validity × ℕ) → List Bool
joined_bits entries = flat_map (λ e. valid_bits e.0 e.1) entries

-- the number of rows of all entries
abbrev pub joined_len : List (Validity × ℕ) → ℕ
joined_len entries = sum_by (λ e. e.1) entries

-- the variant of all entries, where they have the same one without bits, and else their bits joined
abbrev pub joined : List (Validity × ℕ) → Validity
joined entries =
    cond (list_all (λ e. is_non_nullable e.0) entries) NonNullable
    (cond (list_all (λ e. is_all_valid e.0) entries) AllValid
    (cond (list_all (λ e. is_all_invalid e.0) entries) AllInvalid (Array (joined_bits entries))))

-- the same of one entry or more
abbrev pub concat_of : List (Validity × ℕ) → Option Validity
concat_of [] = None
concat_of (e ∷ entries) = Some (joined (e ∷ entries))
