-- Validities joined.
use Rattle.std.proofs.Common.{refl, sym, ◌∙◌, ap, ◌≡◌, ◌<◌, ◌+◌, ℕ, Bool, true, false, ◌&&◌, List, [], ◌∷◌, ◌++◌, length, get_or, take}
use Rattle.std.specs.List.{list_all}
use Rattle.std.specs.Prelude.{replicate}
use Rattle.std.proofs.lemmas.List.{take_more, append-nil, replicate-append-replicate}
use Rattle.std.proofs.lemmas.Grind.{flat_map-append}
use Rattle.std.proofs.lemmas.List.Sums.{sum_by-cons}
use Rattle.vx_masks.specs.declared.validity.Validity.{Validity}
use Rattle.vx_masks.specs.declared.validity.Validity.TheVariants.{NonNullable, AllValid, AllInvalid, Array}
use Rattle.vx_masks.specs.Validities.{valid_bits, is_non_nullable, is_all_valid, is_all_invalid, joined_bits, joined_len}

-- one entry more
pub joined_more : (entries : List (Validity × ℕ)) (i : ℕ) (d : Validity × ℕ) → i < length entries →
    joined_bits (take (i + 1) entries) ≡ joined_bits (take i entries) ++ valid_bits (get_or entries i d).0 (get_or entries i d).1
joined_more entries i d h =
    ap joined_bits (take_more entries i d h)
    ∙ flat_map-append (λ (e : Validity × ℕ). valid_bits e.0 e.1) (take i entries) (get_or entries i d ∷ [])
    ∙ ap (λ (bits : List Bool). joined_bits (take i entries) ++ bits) (append-nil (valid_bits (get_or entries i d).0 (get_or entries i d).1))

-- entries of one kind, whose bits are all the same
same_bits : (test : Validity → Bool) (bit : Bool) → ((v : Validity) (len : ℕ) → test v ≡ true → valid_bits v len ≡ replicate len bit) →
    (entries : List (Validity × ℕ)) → list_all (λ e. test e.0) entries ≡ true → replicate (joined_len entries) bit ≡ joined_bits entries
same_bits test bit gives [] h = refl
same_bits test bit gives (e ∷ entries) h = first (test e.0) refl h (same_bits test bit gives entries)
  where
    first : (b : Bool) → test e.0 ≡ b → (b && list_all (λ e. test e.0) entries) ≡ true →
        (list_all (λ e. test e.0) entries ≡ true → replicate (joined_len entries) bit ≡ joined_bits entries) → replicate (joined_len (e ∷ entries)) bit ≡ joined_bits (e ∷ entries)
    first true is all rest =
        ap (λ n. replicate n bit) (sum_by-cons (λ (e : Validity × ℕ). e.1) e entries)
        ∙ sym (replicate-append-replicate e.1 (joined_len entries) bit)
        ∙ ap (λ (bits : List Bool). bits ++ replicate (joined_len entries) bit) (sym (gives e.0 e.1 is))
        ∙ ap (λ (bits : List Bool). valid_bits e.0 e.1 ++ bits) (rest all)
    first false is all rest = cc

gives_non_nullable : (v : Validity) (len : ℕ) → is_non_nullable v ≡ true → valid_bits v len ≡ replicate len true
gives_non_nullable NonNullable len h = refl
gives_non_nullable AllValid len h = cc
gives_non_nullable AllInvalid len h = cc
gives_non_nullable (Array bits) len h = cc

gives_all_valid : (v : Validity) (len : ℕ) → is_all_valid v ≡ true → valid_bits v len ≡ replicate len true
gives_all_valid NonNullable len h = cc
gives_all_valid AllValid len h = refl
gives_all_valid AllInvalid len h = cc
gives_all_valid (Array bits) len h = cc

gives_all_invalid : (v : Validity) (len : ℕ) → is_all_invalid v ≡ true → valid_bits v len ≡ replicate len false
gives_all_invalid NonNullable len h = cc
gives_all_invalid AllValid len h = cc
gives_all_invalid AllInvalid len h = refl
gives_all_invalid (Array bits) len h = cc

pub non_nullable_bits : (entries : List (Validity × ℕ)) → list_all (λ e. is_non_nullable e.0) entries ≡ true → replicate (joined_len entries) true ≡ joined_bits entries
non_nullable_bits entries h = same_bits is_non_nullable true gives_non_nullable entries h

pub all_valid_bits : (entries : List (Validity × ℕ)) → list_all (λ e. is_all_valid e.0) entries ≡ true → replicate (joined_len entries) true ≡ joined_bits entries
all_valid_bits entries h = same_bits is_all_valid true gives_all_valid entries h

pub all_invalid_bits : (entries : List (Validity × ℕ)) → list_all (λ e. is_all_invalid e.0) entries ≡ true → replicate (joined_len entries) false ≡ joined_bits entries
all_invalid_bits entries h = same_bits is_all_invalid false gives_all_invalid entries h
