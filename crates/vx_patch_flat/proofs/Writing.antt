-- Values written one exception after another.
use Rattle.std.proofs.Common.{ℕ, suc, inl, inr, nat_lt, ◌≡◌, ◌<◌, ◌≤◌, ◌+◌, ◌-◌, ◌∙◌, ap, sym, refl, arith, List, [], ◌∷◌, ◌++◌, length, get_or, set, take, drop, map}
use Rattle.std.specs.List.{slice_range, zip}
use Rattle.std.proofs.lemmas.Bool.{cases_Bool, cases_lt}
use Rattle.std.proofs.lemmas.List.{take_more, length-drop, length-map, get_or-drop, get_or-map}
use Rattle.std.proofs.lemmas.Slice.Zip.{get_or-zip}
use Rattle.vx_bulk.specs.Selections.{overlaid}
use Rattle.vx_patch_flat.specs.Chunks.{chunk_start, pairs_in, place_behind}
use Rattle.vx_patch_flat.proofs.Laying.{overlaid_push}

range_more : {A : Type 0} (ps : List A) (first i : ℕ) (d : A) → first ≤ i → i < length ps → slice_range ps first (i + 1) ≡ slice_range ps first i ++ get_or ps i d ∷ []
range_more {A} ps first i d o h =
    let rest = drop first ps in
    let more : i + 1 - first ≡ i - first + 1 = omega arith in
    let back : first + (i - first) ≡ i = omega arith in
    ap (λ (n : ℕ). take n rest) more
    ∙ take_more rest (i - first) d (omega (arith, length-drop first ps))
    ∙ ap (λ (x : A). take (i - first) rest ++ x ∷ []) (get_or-drop first ps (i - first) d ∙ ap (λ (n : ℕ). get_or ps n d) back)

-- one exception more is written
pub written_next : {A : Type 0} (xs now : List A) (ps : List (ℕ × A)) (first i row : ℕ) (v : A) → now ≡ overlaid xs (slice_range ps first i) → first ≤ i → i < length ps → get_or ps i (row, v) ≡ (row, v) →
    set now row v ≡ overlaid xs (slice_range ps first (i + 1))
written_next {A} xs now ps first i row v so o h here =
    ap (λ (ys : List A). set ys row v) so
    ∙ sym (overlaid_push xs (slice_range ps first i) (row, v))
    ∙ ap (λ (q : ℕ × A). overlaid xs (slice_range ps first i ++ q ∷ [])) (sym here)
    ∙ ap (overlaid xs) (sym (range_more ps first i (row, v) o h))

length_zip : {A B : Type 0} (xs : List A) (ys : List B) → length xs ≡ length ys → length (zip xs ys) ≡ length xs
length_zip [] ys e = refl
length_zip (x ∷ xs) [] e = absurd (omega arith)
length_zip (x ∷ xs) (y ∷ ys) e = ap suc (length_zip xs ys (omega arith))

pub length_pairs : {A : Type 0} (offset chunk : ℕ) (indices : List ℕ) (values : List A) → length indices ≡ length values → length (pairs_in offset chunk indices values) ≡ length indices
length_pairs offset chunk indices values e =
    let long = length-map indices (λ n. n - offset - chunk_start chunk offset) in
    length_zip (map (λ n. n - offset - chunk_start chunk offset) indices) values (long ∙ e) ∙ long

-- the pair at a place
pub pair_at : {A : Type 0} (offset chunk : ℕ) (indices : List ℕ) (values : List A) (i index row : ℕ) (v : A) → length indices ≡ length values → i < length indices → index ≡ get_or indices i 0 →
    v ≡ get_or values i v → row ≡ index - offset - chunk_start chunk offset → get_or (pairs_in offset chunk indices values) i (row, v) ≡ (row, v)
pair_at offset chunk indices values i index row v e h is value place =
    let long = length-map indices (λ n. n - offset - chunk_start chunk offset) in
    get_or-zip (map (λ n. n - offset - chunk_start chunk offset) indices) values i (row, v) (omega (arith, long)) (omega arith)
    ∙ (λ j. (
      (get_or-map (λ n. n - offset - chunk_start chunk offset) indices i 0 row h ∙ ap (λ (n : ℕ). n - offset - chunk_start chunk offset) (sym is) ∙ sym place) j,
      sym value j,
    ))

pub behind_le : (offsets : List ℕ) (w chunk n : ℕ) → place_behind offsets w chunk n ≤ n
behind_le offsets w chunk n = elim (cases_Bool (nat_lt (chunk + 1) (length offsets))) as (λ _. place_behind offsets w chunk n ≤ n) [
  | inl more ↦ rw more (omega arith)
  | inr none ↦ rw none (omega arith)
]

-- the same part by the ends of a loop
pub same_range : {A : Type 0} (ps : List A) (first place a b last : ℕ) → first ≡ a → last ≡ b → (first < last → place ≡ last) → (last ≤ first → place ≡ first) → slice_range ps first place ≡ slice_range ps a b
same_range {A} ps first place a b last from to some none =
    let size : place - first ≡ b - a = elim (cases_lt first last) as (λ _. place - first ≡ b - a) [
      | inl less ↦ omega (arith, some less)
      | inr more ↦ omega (arith, none more)
    ] in
    ap (λ (n : ℕ). take (place - first) (drop n ps)) from ∙ ap (λ (n : ℕ). take n (drop a ps)) size
