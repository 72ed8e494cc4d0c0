-- Which kind of mask bits give.
use Rattle.std.proofs.Common.{arith, refl, sym, ◌∙◌, ap, subst, ◌≡◌, ◌<◌, ◌≤◌, ℕ, zero, suc, ◌+◌, ◌-◌, Bool, true, false, cond, List, length, take, drop}
use Rattle.std.specs.List.{slice_range}
use Rattle.std.specs.Prelude.{replicate}
use Rattle.std.proofs.lemmas.List.{take-replicate, length-replicate, replicate-append-replicate, drop_at}
use Rattle.std.proofs.lemmas.Slice.{between_is}
use Rattle.vx_masks.specs.Bits.{all_true, any_true, count_true}
use Rattle.vx_masks.specs.Masks.{bits_of, mask_of}
use Rattle.vx_masks.specs.declared.mask.Mask.{Mask}
use Rattle.vx_masks.proofs.Counts.{count_all_before}
use Rattle.vx_masks.specs.declared.mask.Mask.TheVariants.{AllTrue, AllFalse, Values}

pub mask_all : (bits : List Bool) → all_true bits ≡ true → AllTrue (length bits) ≡ mask_of bits
mask_all bits h = sym (ap (λ b. cond b (AllTrue (length bits)) (cond (any_true bits) (Values (record { bits = bits; is_cached = false })) (AllFalse (length bits)))) h)

pub mask_none : (bits : List Bool) → all_true bits ≡ false → any_true bits ≡ false → AllFalse (length bits) ≡ mask_of bits
mask_none bits h none =
    sym (ap (λ b. cond b (AllTrue (length bits)) (cond (any_true bits) (Values (record { bits = bits; is_cached = false })) (AllFalse (length bits)))) h
    ∙ ap (λ b. cond b (Values (record { bits = bits; is_cached = false })) (AllFalse (length bits))) none)

pub mask_mixed : (bits : List Bool) → all_true bits ≡ false → any_true bits ≡ true → Values (record { bits = bits; is_cached = false }) ≡ mask_of bits
mask_mixed bits h some =
    sym (ap (λ b. cond b (AllTrue (length bits)) (cond (any_true bits) (Values (record { bits = bits; is_cached = false })) (AllFalse (length bits)))) h
    ∙ ap (λ b. cond b (Values (record { bits = bits; is_cached = false })) (AllFalse (length bits))) some)

all_of : (len : ℕ) → all_true (replicate len true) ≡ true
all_of zero = refl
all_of (suc len) = all_of len

none_of : (len : ℕ) → any_true (replicate len false) ≡ false
none_of zero = refl
none_of (suc len) = none_of len

-- bits that are all the same
pub mask_all_true : (len : ℕ) → AllTrue len ≡ mask_of (replicate len true)
mask_all_true len = ap (λ n. AllTrue n) (sym (length-replicate len true)) ∙ mask_all (replicate len true) (all_of len)

pub mask_all_false : (len : ℕ) → 0 < len → AllFalse len ≡ mask_of (replicate len false)
mask_all_false zero h = absurd (omega arith)
mask_all_false (suc len) h =
    ap (λ n. AllFalse n) (sym (length-replicate (suc len) false)) ∙ mask_none (replicate (suc len) false) refl (none_of (suc len))

pub slice_same : (n i j : ℕ) (bit : Bool) → i ≤ j → j ≤ n → slice_range (replicate n bit) i j ≡ replicate (j - i) bit
slice_same n i j bit h within =
    between_is (replicate n bit) i j
    ∙ ap (drop i) (take-replicate j n bit within ∙ ap (λ k. replicate k bit) (let e : j ≡ i + (j - i) = omega arith in e) ∙ sym (replicate-append-replicate i (j - i) bit))
    ∙ drop_at (replicate i bit) (replicate (j - i) bit) i (length-replicate i bit)

-- a part of a mask whose bits are all the same
pub slice_all : (mask : Mask) (len i j : ℕ) → mask ≡ AllTrue len → i ≤ j → j ≤ length (bits_of mask) → AllTrue (j - i) ≡ mask_of (slice_range (bits_of mask) i j)
slice_all mask len i j e h =
    subst (λ (m : Mask). j ≤ length (bits_of m) → AllTrue (j - i) ≡ mask_of (slice_range (bits_of m) i j)) (sym e)
    (λ within. mask_all_true (j - i) ∙ ap mask_of (sym (slice_same len i j true h (omega (arith, length-replicate len true)))))

pub slice_none : (mask : Mask) (len i j : ℕ) → mask ≡ AllFalse len → i ≤ j → j ≤ length (bits_of mask) → replicate (j - i) false ≡ slice_range (bits_of mask) i j
slice_none mask len i j e h =
    subst (λ (m : Mask). j ≤ length (bits_of m) → replicate (j - i) false ≡ slice_range (bits_of m) i j) (sym e)
    (λ within. sym (slice_same len i j false h (omega (arith, length-replicate len false))))

pub slice_all_bits : (mask : Mask) (len i j : ℕ) → mask ≡ AllTrue len → i ≤ j → j ≤ length (bits_of mask) → replicate (j - i) true ≡ slice_range (bits_of mask) i j
slice_all_bits mask len i j e h =
    subst (λ (m : Mask). j ≤ length (bits_of m) → replicate (j - i) true ≡ slice_range (bits_of m) i j) (sym e)
    (λ within. sym (slice_same len i j true h (omega (arith, length-replicate len true))))

-- what is true before a place of a mask whose bits are all true
pub rank_all : (mask : Mask) (len i : ℕ) → mask ≡ AllTrue len → i ≤ length (bits_of mask) → i ≡ count_true (take i (bits_of mask))
rank_all mask len i e =
    subst (λ (m : Mask). i ≤ length (bits_of m) → i ≡ count_true (take i (bits_of m))) (sym e)
    (λ within. sym (count_all_before len i (omega (arith, length-replicate len true))))
