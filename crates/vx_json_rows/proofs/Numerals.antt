-- The numbers that texts write.
use Rattle.std.proofs.Common.{◌≡◌, ◌<◌, ◌^◌, ℕ, ℤ, pos, negsuc, Bool, true, false, ◌||◌, cond, List, [], ◌∷◌, drop, Some, None}
use Rattle.std.proofs.Common.{refl, sym, ap, ◌∙◌, subst, arith}
use Rattle.std.specs.Prelude.{if◌then◌else◌, FitsSigned, codes, bytes_eq}
use Rattle.std.specs.Int.{w128}
use Rattle.std.specs.Str.{all_ascii_digits}
use Rattle.std.specs.Str.Parse.{AllDigits, IsNumeral, starts_with_minus, without_leading_plus}
use Rattle.std.specs.Str.Parse.{without_leading_sign, signed_digits_value}
use Rattle.std.proofs.lemmas.Bool.{ltb-true, lt-ltb, ne_eqb, and_parts}
use Rattle.std.proofs.lemmas.Slice.Eq.{bytes_eq-Decides}
use Rattle.std.proofs.lemmas.Str.Parse.{tells_all_ascii_digits, numerals_by_value}
use Rattle.vx_json_rows.specs.Texts.{is_count, without_minus, is_unscaled, fits_128, bounded, unscaled_of}

digits_are : (ds : List ℕ) → all_ascii_digits ds ≡ true → AllDigits 10 ds
digits_are ds h = (numerals_by_value (λ cs. all_ascii_digits cs ≡ true) tells_all_ascii_digits).to ds h

-- a count is a numeral, without a plus in front
counted : (ds : List ℕ) → is_count ds ≡ true → IsNumeral 10 ds
counted [] h = absurd (grind arith)
counted (c ∷ cs) h = (omega arith, digits_are (c ∷ cs) (and_parts _ _ h).1)

unsigned_same : (ds : List ℕ) → is_count ds ≡ true → without_leading_plus ds ≡ ds
unsigned_same [] h = refl
unsigned_same (c ∷ cs) h =
    let above : 48 < c = ltb-true 48 c (and_parts _ _ h).0 in
    rw (ne_eqb c 43 (λ e. omega (arith, above, e))) refl

by_sign : (b : Bool) (s : List ℕ) → is_count (if b then drop 1 s else s) ≡ true
    → IsNumeral 10 (cond b (drop 1 s) (without_leading_plus s))
by_sign true s h = counted (drop 1 s) h
by_sign false s h = subst (IsNumeral 10) (sym (unsigned_same s h)) (counted s h)

by_zero : (b : Bool) (s : List ℕ) → bytes_eq s (codes "0") ≡ b → (b || is_count (without_minus s)) ≡ true
    → IsNumeral 10 (without_leading_sign s)
by_zero true s e h =
    subst (λ t. IsNumeral 10 (without_leading_sign t)) (sym ((bytes_eq-Decides s (codes "0")).0 e))
    (omega arith, (omega arith, tt))
by_zero false s e h = by_sign (starts_with_minus s) s h

pub numeral : (s : List ℕ) → is_unscaled s ≡ true → IsNumeral 10 (without_leading_sign s)
numeral s h = by_zero (bytes_eq s (codes "0")) s refl h

bounded_yes : (z : ℤ) → FitsSigned w128 z → bounded z ≡ Some z
bounded_yes (pos n) h = rw (lt-ltb n (2 ^ 127) h.sfits) refl
bounded_yes (negsuc n) h = rw (lt-ltb n (2 ^ 127) h.sfits) refl

over : (z : ℤ) (b : Bool) → fits_128 z ≡ b → (FitsSigned w128 z → ⊥) → (if b then Some z else None) ≡ None
over z false e h = refl
over (pos n) true e h = absurd (h (record { sfits = ltb-true n (2 ^ 127) e }))
over (negsuc n) true e h = absurd (h (record { sfits = ltb-true n (2 ^ 127) e }))

-- the text of a number that 128 bits hold, and of one that they don't
pub unscaled_read : (s : List ℕ) (z : ℤ) → is_unscaled s ≡ true → FitsSigned w128 (signed_digits_value 10 s)
    → z ≡ signed_digits_value 10 s → unscaled_of s ≡ Some z
unscaled_read s z h fits is = rw h (bounded_yes (signed_digits_value 10 s) fits ∙ ap Some (sym is))

pub unscaled_over : (s : List ℕ) → is_unscaled s ≡ true
    → (IsNumeral 10 (without_leading_sign s) × FitsSigned w128 (signed_digits_value 10 s) → ⊥)
    → unscaled_of s ≡ None
unscaled_over s h out =
    rw h (over (signed_digits_value 10 s) (fits_128 (signed_digits_value 10 s)) refl (λ f. out (numeral s h, f)))
