-- Exceptions in slots are read back.
use Rattle.std.proofs.Common.{◌≡◌, ℕ, suc, ◌+◌, false, nat_le, List, [], ◌∷◌, ◌++◌, length, get_or, refl, ◌∙◌, ap, arith, length-append}
use Rattle.std.specs.Prelude.{Option, Some, None}
use Rattle.std.proofs.lemmas.Bool.Decides.{nat_tests}
use Rattle.vx_patches.specs.Pairs.{overlay}
use Rattle.vx_patches.proofs.Parts.{parts_hold}
use Rattle.vx_patch_slots.specs.Slots.{slots_of, kept_of, first_past, judged, assembled, assembled_in, slots_from, ReadsBack}

-- what is appended stands behind
behind : {A : Type 0} (xs ys : List A) (i : ℕ) (d : A) → get_or (xs ++ ys) (length xs + i) d ≡ get_or ys i d
behind [] ys i d = let plain : 0 + i ≡ i = omega arith in ap (λ (k : ℕ). get_or ys k d) plain
behind (x ∷ xs) ys i d =
    let next : suc (length xs) + i ≡ suc (length xs + i) = omega arith in
    ap (λ (k : ℕ). get_or (x ∷ xs ++ ys) k d) next ∙ behind xs ys i d

none_past : (n count : ℕ) → count ≡ n + 3 → first_past count (slots_from n) ≡ None
none_past n count e =
    let a : nat_le count n ≡ false = grind (arith, nat_tests) in
    let b : nat_le count (n + 1) ≡ false = grind (arith, nat_tests) in
    let c : nat_le count (n + 2) ≡ false = grind (arith, nat_tests) in
    rw (a, b, c) refl

pub reads_back : ReadsBack
reads_back o slots s =
    let n = length slots in
    let kept = kept_of o in
    let three : List (Option _) = slots_of (Some o) in
    let all = slots ++ three in
    let long : length all ≡ n + 3 = omega (arith, length-append slots three) in
    let plain : n ≡ n + 0 = omega arith in
    let inside : first_past (length all) (slots_from n) ≡ None = none_past n (length all) long in
    let indices : get_or all n None ≡ Some o.index.indices = ap (λ (k : ℕ). get_or all k None) plain ∙ behind slots three 0 None in
    let values : get_or all (n + 1) None ≡ Some o.values = behind slots three 1 None in
    let offsets : get_or all (n + 2) None ≡ o.index.chunk_offsets = behind slots three 2 None in
    let hold = parts_hold o s in
    ap (assembled_in kept o.index.len all (slots_from n)) inside
    ∙ (λ i. assembled kept o.index.len (slots_from n) (indices i) (values i) (offsets i))
    ∙ (λ i. judged (hold.0 i) (overlay (hold.1 i) o.values))
