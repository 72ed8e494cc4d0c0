-- Running sums and their gaps.
use Rattle.std.proofs.Common.{◌≡◌, ℕ, zero, suc, ◌+◌, ◌-◌, ◌≤◌, ◌<◌, List, [], ◌∷◌, ◌++◌, take, length, get_or, refl, sym, ◌∙◌, ap, arith, add-one, subst, inl, inr, min}
use Rattle.std.proofs.lemmas.List.{take_more}
use Rattle.std.proofs.lemmas.Bool.{cases_eq, cases_lt}
use Rattle.vx_chunks.specs.Bounds.{total, running, gaps}

pub length-running : (at : ℕ) (ns : List ℕ) → length (running at ns) ≡ length ns + 1
length-running at [] = refl
length-running at (n ∷ ns) = omega (arith, length-running (at + n) ns)

pub gaps-running : (at : ℕ) (ns : List ℕ) → gaps (running at ns) ≡ ns
gaps-running at [] = refl
gaps-running at (n ∷ []) = ap (λ k. k ∷ []) (omega arith)
gaps-running at (n ∷ m ∷ ns) =
    let head : at + n - at ≡ n = omega arith in
    ap (λ k. k ∷ gaps (running (at + n) (m ∷ ns))) head ∙ ap (λ ks. n ∷ ks) (gaps-running (at + n) (m ∷ ns))

pub get_or-running : (at : ℕ) (ns : List ℕ) (k d : ℕ) → k ≤ length ns → get_or (running at ns) k d ≡ at + total (take k ns)
get_or-running at [] zero d h = omega arith
get_or-running at [] (suc k) d h = absurd (omega arith)
get_or-running at (n ∷ ns) zero d h = omega arith
get_or-running at (n ∷ ns) (suc k) d h = omega (arith, get_or-running (at + n) ns k d (omega arith))

pub total-take_all : (ns : List ℕ) → total (take (length ns) ns) ≡ total ns
total-take_all [] = refl
total-take_all (n ∷ ns) = ap (λ k. n + k) (total-take_all ns)

total-take_suc : (ns : List ℕ) (k d : ℕ) → k < length ns → total (take (suc k) ns) ≡ total (take k ns) + get_or ns k d
total-take_suc [] k d h = absurd (omega arith)
total-take_suc (n ∷ ns) zero d h = omega arith
total-take_suc (n ∷ ns) (suc k) d h = omega (arith, total-take_suc ns k d (omega arith))

pub total-take_more : (ns : List ℕ) (k d : ℕ) → k < length ns → total (take (k + 1) ns) ≡ total (take k ns) + get_or ns k d
total-take_more ns k d h = ap (λ n. total (take n ns)) (add-one k) ∙ total-take_suc ns k d h

pub total-append : (xs ys : List ℕ) → total (xs ++ ys) ≡ total xs + total ys
total-append [] ys = omega arith
total-append (x ∷ xs) ys = omega (arith, total-append xs ys)

pub running_push : (at : ℕ) (ns : List ℕ) (n : ℕ) → running at (ns ++ n ∷ []) ≡ running at ns ++ (at + total ns + n) ∷ []
running_push at [] n = ap (λ k. at ∷ k ∷ []) (omega arith)
running_push at (m ∷ ns) n = ap (λ ks. at ∷ ks) (running_push (at + m) ns n ∙ ap (λ k. running (at + m) ns ++ k ∷ []) (omega arith))

pub running_more : (lens : List ℕ) (k d : ℕ) → k < length lens → running 0 (take (k + 1) lens) ≡ running 0 (take k lens) ++ total (take (k + 1) lens) ∷ []
running_more lens k d h =
    ap (running 0) (take_more lens k d h) ∙ running_push 0 (take k lens) (get_or lens k d) ∙ ap (λ n. running 0 (take k lens) ++ n ∷ []) (omega (arith, total-take_more lens k d h))

pub total-take_le : (lens : List ℕ) (k : ℕ) → total (take k lens) ≤ total lens
total-take_le [] zero = omega arith
total-take_le [] (suc k) = omega arith
total-take_le (n ∷ ns) zero = omega arith
total-take_le (n ∷ ns) (suc k) = omega (arith, total-take_le ns k)

-- the first boundary above an index below the length
module _ (lens : List ℕ) (after index : ℕ) (h : index < total lens) (w : after ≤ length lens + 1)
    (low : 0 < after → total (take (after - 1) lens) ≤ index) (high : after < length lens + 1 → index < total (take after lens)) where
  pub found_positive : 0 < after
  found_positive = positive_after after (λ z. subst (λ n. index < total (take n lens)) z (high (omega arith)))
    where
      positive_after : (n : ℕ) → (n ≡ 0 → index < total (take 0 lens)) → 0 < n
      positive_after zero none = absurd (omega (arith, none refl))
      positive_after (suc n) none = omega arith

  pub found_within : after ≤ length lens
  found_within = elim (cases_eq after (length lens + 1)) as (λ _. after ≤ length lens) [
    | inl same ↦
        let last : after - 1 ≡ length lens = omega arith in
        absurd (omega (arith, total-take_all lens, ap (λ n. total (take n lens)) last, low (omega arith)))
    | inr apart ↦ omega arith
  ]

-- and an index below it lies in the chunk before it
pub above_last : (lens : List ℕ) (after index : ℕ) → 0 < after → after ≤ length lens → index < total (take after lens) →
    index < total (take (after - 1) lens) + get_or lens (after - 1) 0
above_last lens after index p w h =
    let next : after - 1 + 1 ≡ after = omega arith in
    omega (arith, ap (λ n. total (take n lens)) next, total-take_more lens (after - 1) 0 (omega arith))

pub total-take_mono : (lens : List ℕ) (j k : ℕ) → j ≤ k → total (take j lens) ≤ total (take k lens)
total-take_mono [] zero k h = omega arith
total-take_mono [] (suc j) zero h = omega arith
total-take_mono [] (suc j) (suc k) h = omega arith
total-take_mono (n ∷ ns) zero k h = omega arith
total-take_mono (n ∷ ns) (suc j) zero h = absurd (omega arith)
total-take_mono (n ∷ ns) (suc j) (suc k) h = omega (arith, total-take_mono ns j k (omega arith))

-- rows in order lie in chunks in order
pub in_order : (lens : List ℕ) (first last first_start last_end start end : ℕ) → last < length lens → total (take first lens) + first_start ≡ start →
    total (take last lens) + last_end ≡ end → last_end ≤ get_or lens last 0 → start < end → first ≤ last
in_order lens first last first_start last_end start end w f l p h =
    elim (cases_lt first (last + 1)) as (λ _. first ≤ last) [ inl below ↦ omega arith | inr above ↦ absurd (omega (arith, total-take_mono lens (last + 1) first above, total-take_more lens last 0 w)) ]

pub some_chunk : (lens : List ℕ) → 0 < total lens → 0 < length lens
some_chunk [] h = absurd (omega arith)
some_chunk (n ∷ ns) h = omega arith

pub total-last : (lens : List ℕ) (n : ℕ) → n ≡ length lens → 0 < n → total (take (n - 1) lens) + get_or lens (n - 1) 0 ≡ total lens
total-last lens n e h =
    let back : n - 1 + 1 ≡ length lens = omega arith in
    sym (total-take_more lens (n - 1) 0 (omega arith)) ∙ ap (λ k. total (take k lens)) back ∙ total-take_all lens

-- behind an index at the length stands no boundary
pub found_none : (lens : List ℕ) (after index : ℕ) → index ≡ total lens → after ≤ length lens + 1 → (after < length lens + 1 → index < total (take after lens)) → after ≡ length lens + 1
found_none lens after index h w high =
    elim (cases_lt after (length lens + 1)) as (λ _. after ≡ length lens + 1) [
      | inl below ↦ absurd (omega (arith, high below, total-take_le lens after))
      | inr above ↦ omega arith
    ]

-- the last of some chunks reaches from its front to the end; with no chunk both are 0
pub total-last_or_none : (lens : List ℕ) → total (take (length lens - 1) lens) + get_or lens (length lens - 1) 0 ≡ total lens
total-last_or_none [] = refl
total-last_or_none (n ∷ ns) = total-last (n ∷ ns) (length (n ∷ ns)) refl (omega arith)

-- the chunk of an index begins at most there
pub begins_before : (lens : List ℕ) (index after chunk : ℕ) → index ≤ total lens → (index < total lens → after ≤ length lens) →
    (index < total lens → total (take (after - 1) lens) ≤ index) → chunk ≡ min after (length lens) - 1 → total (take chunk lens) ≤ index
begins_before lens index after chunk h within below e = elim (cases_lt index (total lens)) as (λ _. total (take chunk lens) ≤ index) [
  | inl inside ↦
      let same : chunk ≡ after - 1 = omega (arith, within inside) in
      omega (arith, ap (λ k. total (take k lens)) same, below inside)
  | inr end ↦ omega (arith, total-take_le lens chunk)
]
