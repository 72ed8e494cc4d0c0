-- How many boundaries are not above an index.
use Rattle.std.proofs.Common.{arith, refl, ap, ◌∙◌, ◌≡◌, ℕ, zero, suc, ◌+◌, ◌-◌, ◌≤◌, ◌<◌, inl, inr, Bool, true, false, cond, List, [], ◌∷◌, take, length, get_or, count_by}
use Rattle.std.proofs.lemmas.Bool.{cases_lt}
use Rattle.std.proofs.lemmas.List.{length-map}
use Rattle.std.proofs.lemmas.List.Sums.{sum_by-cons, count_by-le-length}
use Rattle.std.specs.declared.cmp.Ordering.{Ordering}
use Rattle.std.specs.List.Sorted.{IsNonDecreasingBy}
use Rattle.std.specs.Ordering.{nat_cmp, is_le, ordering_index}
use Rattle.std.specs.List.{list_any}
use Rattle.std.specs.Ordering.{is_eq}
use Rattle.vx_search.specs.Answers.{standing}
use Rattle.vx_search.specs.Places.{place, index_of}
use Rattle.vx_search.specs.declared.result.SearchResult.{SearchResult}
use Rattle.vx_search.specs.declared.result.SearchResult.TheVariants.{Found, NotFound}
use Rattle.vx_search.specs.declared.result.SearchSortedSide.TheVariants.{Right}
use Rattle.vx_chunks.specs.Bounds.{total, running}
use Rattle.vx_chunks.proofs.Sums.{length-running, get_or-running, total-take_mono}

-- how many running sums are not above an index
abbrev pub not_above : ℕ → List ℕ → ℕ → ℕ
not_above at lens index = count_by is_le (standing nat_cmp (running at lens) index)

abbrev weight : ℕ → ℕ → ℕ
weight at index = cond (is_le (nat_cmp at index)) 1 0

weight_below : (at index : ℕ) → at ≤ index → weight at index ≡ 1
weight_below at index h = grind arith

weight_above : (at index : ℕ) → index < at → weight at index ≡ 0
weight_above at index h = grind arith

more : (at n : ℕ) (lens : List ℕ) (index : ℕ) → not_above at (n ∷ lens) index ≡ weight at index + not_above (at + n) lens index
more at n lens index = sum_by-cons (λ (o : Ordering). cond (is_le o) 1 0) (nat_cmp at index) (standing nat_cmp (running (at + n) lens) index)

last : (at index : ℕ) → not_above at [] index ≡ weight at index
last at index = omega (arith, sum_by-cons (λ (o : Ordering). cond (is_le o) 1 0) (nat_cmp at index) [])

none : (at : ℕ) (lens : List ℕ) (index : ℕ) → index < at → not_above at lens index ≡ 0
none at [] index h = last at index ∙ weight_above at index h
none at (n ∷ lens) index h = omega (arith, more at n lens index, weight_above at index h, none (at + n) lens index (omega arith))

pub not_above_within : (at : ℕ) (lens : List ℕ) (index : ℕ) → not_above at lens index ≤ length lens + 1
not_above_within at lens index =
    omega (arith, count_by-le-length is_le (standing nat_cmp (running at lens) index), length-map (running at lens) (λ x. nat_cmp x index), length-running at lens)

-- what is counted of the boundaries behind the first is counted with it
one_more : (at n c : ℕ) (lens : List ℕ) (index : ℕ) → at ≤ index → (0 < c → at + n + total (take (c - 1) lens) ≤ index) → at + total (take c (n ∷ lens)) ≤ index
one_more at n zero lens index h rest = omega arith
one_more at n (suc c) lens index h rest =
    let less : suc c - 1 ≡ c = omega arith in
    omega (arith, rest (omega arith), ap (λ k. total (take k lens)) less)

pub not_above_below : (at : ℕ) (lens : List ℕ) (index : ℕ) → 0 < not_above at lens index → at + total (take (not_above at lens index - 1) lens) ≤ index
not_above_below at [] index some = elim (cases_lt index at) as (λ _. at + total (take (not_above at [] index - 1) []) ≤ index) [
  | inl above ↦ absurd (omega (arith, none at [] index above))
  | inr below ↦
      let one : not_above at [] index - 1 ≡ 0 = omega (arith, last at index, weight_below at index below) in
      omega (arith, ap (λ k. total (take k [])) one)
]
not_above_below at (n ∷ lens) index some = elim (cases_lt index at) as (λ _. at + total (take (not_above at (n ∷ lens) index - 1) (n ∷ lens)) ≤ index) [
  | inl above ↦ absurd (omega (arith, none at (n ∷ lens) index above))
  | inr below ↦
      let rest : not_above at (n ∷ lens) index - 1 ≡ not_above (at + n) lens index = omega (arith, more at n lens index, weight_below at index below) in
      omega (arith, ap (λ k. total (take k (n ∷ lens))) rest, one_more at n (not_above (at + n) lens index) lens index below (not_above_below (at + n) lens index))
]

pub not_above_above : (at : ℕ) (lens : List ℕ) (index : ℕ) → not_above at lens index < length lens + 1 → index < at + total (take (not_above at lens index) lens)
not_above_above at [] index h = elim (cases_lt index at) as (λ _. index < at + total (take (not_above at [] index) [])) [
  | inl above ↦ omega arith
  | inr below ↦ absurd (omega (arith, last at index, weight_below at index below))
]
not_above_above at (n ∷ lens) index h = elim (cases_lt index at) as (λ _. index < at + total (take (not_above at (n ∷ lens) index) (n ∷ lens))) [
  | inl above ↦ omega arith
  | inr below ↦
      let c = not_above (at + n) lens index in
      let rest : not_above at (n ∷ lens) index ≡ suc c = omega (arith, more at n lens index, weight_below at index below) in
      omega (arith, ap (λ k. total (take k (n ∷ lens))) rest, not_above_above (at + n) lens index (omega (arith, rest)))
]

index_mono : (a b v : ℕ) → a ≤ b → ordering_index (nat_cmp a v) ≤ ordering_index (nat_cmp b v)
index_mono a b v h = grind arith

-- the running sums do not fall against an index
pub running_ascends : (lens : List ℕ) (index : ℕ) → IsNonDecreasingBy (λ x. ordering_index (nat_cmp x index)) (running 0 lens)
running_ascends lens index i j d h k =
    let within : j ≤ length lens = omega (arith, length-running 0 lens) in
    index_mono (get_or (running 0 lens) i d) (get_or (running 0 lens) j d) index
    (omega (arith, get_or-running 0 lens i d (omega arith), get_or-running 0 lens j d within, total-take_mono lens i j h))

-- the place behind the elements that are not above
place_right : (os : List Ordering) → index_of (place Right os) ≡ count_by is_le os
place_right os = go (list_any is_eq os)
  where
    go : (b : Bool) → index_of (cond b (Found (count_by is_le os)) (NotFound (count_by is_le os))) ≡ count_by is_le os
    go true = refl
    go false = refl

-- where a search of the boundaries ends
pub searched : (ends lens : List ℕ) (index n : ℕ) (p : SearchResult) → ends ≡ running 0 lens → p ≡ place Right (standing nat_cmp ends index) → n ≡ index_of p → n ≡ not_above 0 lens index
searched ends lens index n p same found at =
    at ∙ ap index_of found ∙ place_right (standing nat_cmp ends index) ∙ ap (λ es. count_by is_le (standing nat_cmp es index)) same
