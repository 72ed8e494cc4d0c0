-- What is dealt out to chunks, and where it stands among the rows.
use Rattle.std.proofs.Common.{arith, refl, sym, ◌∙◌, ap, subst, ◌≡◌, ◌<◌, ◌≤◌, ◌+◌, ◌-◌, ◌⊎◌, inl, inr, ℕ, zero, suc, Bool, true, false, cond, ◌&&◌, List, [], ◌∷◌, ◌++◌, map, length, get_or, set, take, drop, append_assoc, length-append, zero-add}
use Rattle.std.specs.List.{All, AllZip, AllByRecursion, flat_map}
use Rattle.std.specs.Prelude.{nat_le}
use Rattle.std.proofs.lemmas.Bool.{cases_eq, ne_eqb, eq-eqb, and_parts, leb-true}
use Rattle.std.proofs.lemmas.List.{append-nil, map-append, length-map, get_or-set_same, get_or-set_other, length-set}
use Rattle.std.proofs.lemmas.List.Concat.{flat_map-cons}
use Rattle.std.proofs.lemmas.List.Elements.{All-from_recursion}
use Rattle.vx_chunks.specs.Bounds.{total}
use Rattle.vx_chunks.proofs.Sums.{total-take_more, total-take_le}
use Rattle.vx_chunk_plans.specs.Laid.{laid_from}
use Rattle.vx_chunk_plans.specs.Deals.{bucket_of, dealt, in_turn}
use Rattle.vx_chunk_plans.proofs.Laying.{shifted}

module _ {X : Type 0} where
  pub bucket_yes : (k : ℕ) (s : ℕ × X) (spots : List (ℕ × X)) → s.0 ≡ k → bucket_of k (s ∷ spots) ≡ s.1 ∷ bucket_of k spots
  bucket_yes k s spots e = ap (λ b. cond b (s.1 ∷ bucket_of k spots) (bucket_of k spots)) (eq-eqb s.0 k e)

  bucket_no : (k : ℕ) (s : ℕ × X) (spots : List (ℕ × X)) → (s.0 ≡ k → ⊥) → bucket_of k (s ∷ spots) ≡ bucket_of k spots
  bucket_no k s spots ne = ap (λ b. cond b (s.1 ∷ bucket_of k spots) (bucket_of k spots)) (ne_eqb s.0 k ne)

  pub bucket-append : (k : ℕ) (xs ys : List (ℕ × X)) → bucket_of k (xs ++ ys) ≡ bucket_of k xs ++ bucket_of k ys
  bucket-append k [] ys = refl
  bucket-append k (s ∷ xs) ys = elim (cases_eq s.0 k) as (λ _. bucket_of k ((s ∷ xs) ++ ys) ≡ bucket_of k (s ∷ xs) ++ bucket_of k ys) [
    | inl e ↦ bucket_yes k s (xs ++ ys) e ∙ ap (λ b. s.1 ∷ b) (bucket-append k xs ys) ∙ ap (λ b. b ++ bucket_of k ys) (sym (bucket_yes k s xs e))
    | inr ne ↦ bucket_no k s (xs ++ ys) ne ∙ bucket-append k xs ys ∙ ap (λ b. b ++ bucket_of k ys) (sym (bucket_no k s xs ne))
  ]

  -- a spot of an earlier chunk changes nothing
  skip : (k n : ℕ) (s : ℕ × X) (spots : List (ℕ × X)) → s.0 < k → dealt k n (s ∷ spots) ≡ dealt k n spots
  skip k zero s spots h = refl
  skip k (suc n) s spots h =
      ap (λ b. b ∷ dealt (k + 1) n (s ∷ spots)) (bucket_no k s spots (λ e. absurd (omega arith)))
      ∙ ap (λ bs. bucket_of k spots ∷ bs) (skip (k + 1) n s spots (omega arith))

  skip_end : (k n : ℕ) (s : ℕ × X) (spots : List (ℕ × X)) → s.0 < k → dealt k n (spots ++ s ∷ []) ≡ dealt k n spots
  skip_end k zero s spots h = refl
  skip_end k (suc n) s spots h =
      let other : s.0 ≡ k → ⊥ = λ e. absurd (omega arith) in
      ap (λ b. b ∷ dealt (k + 1) n (spots ++ s ∷ [])) (bucket-append k spots (s ∷ []) ∙ ap (λ b. bucket_of k spots ++ b) (bucket_no k s [] other) ∙ append-nil (bucket_of k spots))
      ∙ ap (λ bs. bucket_of k spots ∷ bs) (skip_end (k + 1) n s spots (omega arith))

  pub length-dealt : (k n : ℕ) (spots : List (ℕ × X)) → length (dealt k n spots) ≡ n
  length-dealt k zero spots = refl
  length-dealt k (suc n) spots = ap suc (length-dealt (k + 1) n spots)

  pub get_or-dealt : (k n j : ℕ) (spots : List (ℕ × X)) (d : List X) → j < n → get_or (dealt k n spots) j d ≡ bucket_of (k + j) spots
  get_or-dealt k zero j spots d h = absurd (omega arith)
  get_or-dealt k (suc n) zero spots d h = ap (λ i. bucket_of i spots) (let e : k ≡ k + 0 = omega arith in e)
  get_or-dealt k (suc n) (suc j) spots d h = get_or-dealt (k + 1) n j spots d (omega arith) ∙ ap (λ i. bucket_of i spots) (let e : k + 1 + j ≡ k + suc j = omega arith in e)

  -- a spot more goes to the end of its bucket
  pub dealt_push : (k n j : ℕ) (spots : List (ℕ × X)) (s : ℕ × X) → s.0 ≡ k + j → j < n →
      set (dealt k n spots) j (get_or (dealt k n spots) j [] ++ s.1 ∷ []) ≡ dealt k n (spots ++ s ∷ [])
  dealt_push k zero j spots s e h = absurd (omega arith)
  dealt_push k (suc n) zero spots s e h =
      ap (λ b. b ∷ dealt (k + 1) n spots) (ap (λ b. bucket_of k spots ++ b) (sym (bucket_yes k s [] (omega arith))) ∙ sym (bucket-append k spots (s ∷ [])))
      ∙ ap (λ bs. bucket_of k (spots ++ s ∷ []) ∷ bs) (sym (skip_end (k + 1) n s spots (omega arith)))
  dealt_push k (suc n) (suc j) spots s e h =
      let other : s.0 ≡ k → ⊥ = λ same. absurd (omega arith) in
      ap (λ bs. bucket_of k spots ∷ bs) (dealt_push (k + 1) n j spots s (omega arith) (omega arith))
      ∙ ap (λ b. b ∷ dealt (k + 1) n (spots ++ s ∷ [])) (sym (bucket-append k spots (s ∷ []) ∙ ap (λ b. bucket_of k spots ++ b) (bucket_no k s [] other) ∙ append-nil (bucket_of k spots)))

  -- what fits its chunk does so in its bucket
  bucket_all : (P : X → Type 0) (k : ℕ) (spots : List (ℕ × X)) → All (λ s. s.0 ≡ k → P s.1) spots → AllByRecursion P (bucket_of k spots)
  bucket_all P k [] all = tt
  bucket_all P k (s ∷ spots) all =
      let rest = bucket_all P k spots (λ i d h. all (suc i) d (omega arith)) in
      elim (cases_eq s.0 k) as (λ _. AllByRecursion P (bucket_of k (s ∷ spots))) [
        | inl e ↦ subst (AllByRecursion P) (sym (bucket_yes k s spots e)) (all 0 s (omega arith) e, rest)
        | inr ne ↦ subst (AllByRecursion P) (sym (bucket_no k s spots ne)) rest
      ]

  pub zip_dealt : (Q : ℕ → X → Type 0) (k : ℕ) (lens : List ℕ) (spots : List (ℕ × X)) → All (λ s. (j : ℕ) → j < length lens → s.0 ≡ k + j → Q (get_or lens j 0) s.1) spots →
      AllZip (λ n bucket. All (Q n) bucket) lens (dealt k (length lens) spots)
  zip_dealt Q k [] spots all = tt
  zip_dealt Q k (n ∷ lens) spots all = (
    All-from_recursion (Q n) (bucket_of k spots) (bucket_all (Q n) k spots (λ i d h e. all i d h 0 (omega arith) (omega arith))),
    zip_dealt Q (k + 1) lens spots (λ i d h j below e. all i d h (suc j) (omega arith) (omega arith)),
  )

  -- where the chunks are in turn, the first chunk is the first that anything is dealt to
  none_before : (k c : ℕ) (spots : List (ℕ × X)) → in_turn c spots ≡ true → k < c → bucket_of k spots ≡ []
  none_before k c [] t h = refl
  none_before k c (s ∷ spots) t h =
      let parts = and_parts (nat_le c s.0) (in_turn s.0 spots) t in
      let later = leb-true c s.0 parts.0 in
      bucket_no k s spots (λ e. absurd (omega arith)) ∙ none_before k s.0 spots parts.1 (omega arith)

  -- places that are told by a list of parts of a chunk: those of parts one behind the other
  module _ (spread : List X → List ℕ) (none : spread [] ≡ []) (both : (a b : List X) → spread (a ++ b) ≡ spread a ++ spread b) where
    abbrev pub rows_by : ℕ → List ℕ → List (List X) → List ℕ
    rows_by at lens buckets = laid_from (λ (n : ℕ) (parts : List X). spread parts) at lens buckets

    abbrev pub wide : List X → ℕ
    wide parts = length (spread parts)

    abbrev pub widths : List (List X) → List ℕ
    widths buckets = map wide buckets

    -- the rows of a part
    abbrev pub part_rows : List ℕ → ℕ × X → List ℕ
    part_rows lens s = shifted (total (take s.0 lens)) (spread (s.1 ∷ []))

    nothing : (at k : ℕ) (lens : List ℕ) → rows_by at lens (dealt k (length lens) []) ≡ []
    nothing at k [] = refl
    nothing at k (n ∷ lens) = ap (λ p. shifted at p ++ rows_by (at + n) lens (dealt (k + 1) (length lens) [])) none ∙ nothing (at + n) (k + 1) lens

    front : (at k : ℕ) (lens : List ℕ) (s : ℕ × X) (spots : List (ℕ × X)) → k ≤ s.0 → s.0 < k + length lens → in_turn s.0 spots ≡ true →
        rows_by at lens (dealt k (length lens) (s ∷ spots)) ≡ shifted (at + total (take (s.0 - k) lens)) (spread (s.1 ∷ [])) ++ rows_by at lens (dealt k (length lens) spots)
    front at k [] s spots h w t = absurd (omega arith)
    front at k (n ∷ lens) s spots h w t =
        elim (cases_eq s.0 k) as (λ _. rows_by at (n ∷ lens) (dealt k (suc (length lens)) (s ∷ spots)) ≡ shifted (at + total (take (s.0 - k) (n ∷ lens))) (spread (s.1 ∷ [])) ++ rows_by at (n ∷ lens) (dealt k (suc (length lens)) spots)) [
          | inl e ↦
              let z : s.0 - k ≡ 0 = omega arith in
              let here = bucket_of k spots in
              let rest = rows_by (at + n) lens (dealt (k + 1) (length lens) spots) in
              ap (λ b. shifted at (spread b) ++ rows_by (at + n) lens (dealt (k + 1) (length lens) (s ∷ spots))) (bucket_yes k s spots e)
              ∙ ap (λ bs. shifted at (spread (s.1 ∷ here)) ++ rows_by (at + n) lens bs) (skip (k + 1) (length lens) s spots (omega arith))
              ∙ ap (λ p. shifted at p ++ rest) (both (s.1 ∷ []) here)
              ∙ ap (λ p. p ++ rest) (map-append (λ (place : ℕ). at + place) (spread (s.1 ∷ [])) (spread here))
              ∙ append_assoc (shifted at (spread (s.1 ∷ []))) (shifted at (spread here)) rest
              ∙ ap (λ b. shifted b (spread (s.1 ∷ [])) ++ (shifted at (spread here) ++ rest)) (let q : at ≡ at + total (take (s.0 - k) (n ∷ lens)) = omega (arith, ap (λ j. total (take j (n ∷ lens))) z) in q)
          | inr ne ↦
              let step : s.0 - k ≡ suc (s.0 - (k + 1)) = omega arith in
              let empty = none_before k s.0 spots t (omega arith) in
              let rest = rows_by (at + n) lens (dealt (k + 1) (length lens) spots) in
              let gone : shifted at (spread (bucket_of k spots)) ≡ [] = ap (λ b. shifted at (spread b)) empty ∙ ap (shifted at) none in
              ap (λ b. shifted at (spread b) ++ rows_by (at + n) lens (dealt (k + 1) (length lens) (s ∷ spots))) (bucket_no k s spots ne)
              ∙ ap (λ p. p ++ rows_by (at + n) lens (dealt (k + 1) (length lens) (s ∷ spots))) gone
              ∙ front (at + n) (k + 1) lens s spots (omega arith) (omega arith) t
              ∙ ap (λ b. shifted b (spread (s.1 ∷ [])) ++ rest)
              (let q : at + n + total (take (s.0 - (k + 1)) lens) ≡ at + total (take (s.0 - k) (n ∷ lens)) = omega (arith, ap (λ j. total (take j (n ∷ lens))) step) in q)
              ∙ ap (λ p. shifted (at + total (take (s.0 - k) (n ∷ lens))) (spread (s.1 ∷ [])) ++ (p ++ rest)) (sym gone)
        ]

    -- parts whose chunks are in turn are laid one behind the other
    pub turned : (lens : List ℕ) (c : ℕ) (spots : List (ℕ × X)) → in_turn c spots ≡ true → All (λ s. s.0 < length lens) spots →
        rows_by 0 lens (dealt 0 (length lens) spots) ≡ flat_map (part_rows lens) spots
    turned lens c [] t all = nothing 0 0 lens
    turned lens c (s ∷ spots) t all =
        let parts = and_parts (nat_le c s.0) (in_turn s.0 spots) t in
        let same : s.0 - 0 ≡ s.0 = omega arith in
        front 0 0 lens s spots (omega arith) (omega (arith, all 0 s (omega arith))) parts.1
        ∙ ap (λ b. shifted b (spread (s.1 ∷ [])) ++ rows_by 0 lens (dealt 0 (length lens) spots)) (zero-add (total (take (s.0 - 0) lens)) ∙ ap (λ j. total (take j lens)) same)
        ∙ ap (λ r. part_rows lens s ++ r) (turned lens s.0 spots parts.1 (λ i d h. all (suc i) d (omega arith)))
        ∙ sym (flat_map-cons (part_rows lens) s spots)

    -- a part of a bucket stands behind the buckets before, and behind what is before it in its own
    pub split : (at : ℕ) (lens : List ℕ) (buckets : List (List X)) (k : ℕ) (a : List X) (x : X) (b : List X) → length buckets ≡ length lens → k < length lens → get_or buckets k [] ≡ a ++ x ∷ b →
        (before : List ℕ) × ((after : List ℕ) × ((rows_by at lens buckets ≡ before ++ (shifted (at + total (take k lens)) (spread (x ∷ [])) ++ after)) × (length before ≡ total (take k (widths buckets)) + wide a)))
    split at [] buckets k a x b e h is = absurd (omega arith)
    split at (n ∷ lens) [] k a x b e h is = absurd (omega arith)
    split at (n ∷ lens) (bucket ∷ buckets) zero a x b e h is =
        let rest = rows_by (at + n) lens buckets in
        let z : at ≡ at + 0 = omega arith in
        let mid = shifted at (spread (x ∷ [])) in
        let end = shifted at (spread b) in (
          shifted at (spread a),
          (
            end ++ rest,
            (
              ap (λ p. shifted at (spread p) ++ rest) is
                  ∙ ap (λ p. shifted at p ++ rest) (both a (x ∷ b) ∙ ap (λ p. spread a ++ p) (both (x ∷ []) b))
                  ∙ ap (λ p. p ++ rest) (map-append (λ (place : ℕ). at + place) (spread a) (spread (x ∷ []) ++ spread b) ∙ ap (λ p. shifted at (spread a) ++ p) (map-append (λ (place : ℕ). at + place) (spread (x ∷ [])) (spread b)))
                  ∙ append_assoc (shifted at (spread a)) (mid ++ end) rest
                  ∙ ap (λ p. shifted at (spread a) ++ p) (append_assoc mid end rest)
                  ∙ ap (λ c. shifted at (spread a) ++ (shifted c (spread (x ∷ [])) ++ (end ++ rest))) z,
              length-map (spread a) (λ (place : ℕ). at + place) ∙ sym (zero-add (wide a)),
            ),
          ),
        )
    split at (n ∷ lens) (bucket ∷ buckets) (suc k) a x b e h is =
        let (before, (after, (rows, long))) = split (at + n) lens buckets k a x b (omega arith) (omega arith) is in
        let front = shifted at (spread bucket) in
        let c : at + n + total (take k lens) ≡ at + (n + total (take k lens)) = omega arith in (
          front ++ before,
          (
            after,
            (
              ap (λ r. front ++ r) rows
                  ∙ sym (append_assoc front before (shifted (at + n + total (take k lens)) (spread (x ∷ [])) ++ after))
                  ∙ ap (λ j. (front ++ before) ++ (shifted j (spread (x ∷ [])) ++ after)) c,
              omega (arith, long, length-append front before, length-map (spread bucket) (λ (place : ℕ). at + place)),
            ),
          ),
        )

    -- together the buckets are no wider than what is dealt
    abbrev pub weight : List (ℕ × X) → ℕ
    weight [] = 0
    weight (s ∷ spots) = wide (s.1 ∷ []) + weight spots

    widths_none : (k n : ℕ) → total (widths (dealt k n [])) ≡ 0
    widths_none k zero = refl
    widths_none k (suc n) = omega (arith, ap length none, widths_none (k + 1) n)

    wide_more : (x : X) (parts : List X) → wide (x ∷ parts) ≡ wide (x ∷ []) + wide parts
    wide_more x parts = ap length (both (x ∷ []) parts) ∙ length-append (spread (x ∷ [])) (spread parts)

    widths_more : (k n : ℕ) (s : ℕ × X) (spots : List (ℕ × X)) → total (widths (dealt k n (s ∷ spots))) ≤ wide (s.1 ∷ []) + total (widths (dealt k n spots))
    widths_more k zero s spots = omega arith
    widths_more k (suc n) s spots =
        elim (cases_eq s.0 k) as (λ _. total (widths (dealt k (suc n) (s ∷ spots))) ≤ wide (s.1 ∷ []) + total (widths (dealt k (suc n) spots))) [
          | inl e ↦ omega (arith, ap wide (bucket_yes k s spots e), wide_more s.1 (bucket_of k spots), ap (λ bs. total (widths bs)) (skip (k + 1) n s spots (omega arith)))
          | inr ne ↦ omega (arith, ap wide (bucket_no k s spots ne), widths_more (k + 1) n s spots)
        ]

    pub widths_within : (k n : ℕ) (spots : List (ℕ × X)) → total (widths (dealt k n spots)) ≤ weight spots
    widths_within k n [] = omega (arith, widths_none k n)
    widths_within k n (s ∷ spots) = omega (arith, widths_more k n s spots, widths_within k n spots)

    -- for each chunk the place behind what was counted of it so far: the buckets before it, and of its own those of xs
    pub record Counts (n : ℕ) (all xs : List (ℕ × X)) (next : List ℕ) : Type 0 where
      pub long : length next ≡ n
      pub each : (k : ℕ) → k < n → get_or next k 0 ≡ total (take k (widths (dealt 0 n all))) + wide (bucket_of k xs)

    pub counts_within : (n : ℕ) (xs : List (ℕ × X)) (s : ℕ × X) (ys : List (ℕ × X)) (next : List ℕ) → s.0 < n → Counts n (xs ++ s ∷ ys) xs next → get_or next s.0 0 + wide (s.1 ∷ []) ≤ weight (xs ++ s ∷ ys)
    counts_within n xs s ys next h counts =
        let all = xs ++ s ∷ ys in
        let ws = widths (dealt 0 n all) in
        let own = bucket_of s.0 all in
        let at : get_or ws s.0 0 ≡ wide own = get_or_widths 0 n s.0 all h ∙ ap (λ k. wide (bucket_of k all)) (zero-add s.0) in
        let mine : wide own ≡ wide (bucket_of s.0 xs) + (wide (s.1 ∷ []) + wide (bucket_of s.0 ys)) =
        ap wide (bucket-append s.0 xs (s ∷ ys) ∙ ap (λ b. bucket_of s.0 xs ++ b) (bucket_yes s.0 s ys refl))
        ∙ ap length (both (bucket_of s.0 xs) (s.1 ∷ bucket_of s.0 ys)) ∙ length-append (spread (bucket_of s.0 xs)) (spread (s.1 ∷ bucket_of s.0 ys))
        ∙ ap (λ w. wide (bucket_of s.0 xs) + w) (wide_more s.1 (bucket_of s.0 ys)) in
        omega (arith, counts.each s.0 h, at, mine, widths_within 0 n all, total-take_le ws (s.0 + 1), total-take_more ws s.0 0 (omega (arith, length-map (dealt 0 n all) wide, length-dealt 0 n all)))
      where
        get_or_widths : (k m j : ℕ) (spots : List (ℕ × X)) → j < m → get_or (widths (dealt k m spots)) j 0 ≡ wide (bucket_of (k + j) spots)
        get_or_widths k zero j spots h = absurd (omega arith)
        get_or_widths k (suc m) zero spots h = ap (λ i. wide (bucket_of i spots)) (let e : k ≡ k + 0 = omega arith in e)
        get_or_widths k (suc m) (suc j) spots h = get_or_widths (k + 1) m j spots (omega arith) ∙ ap (λ i. wide (bucket_of i spots)) (let e : k + 1 + j ≡ k + suc j = omega arith in e)

    pub counts_more : (n : ℕ) (all xs : List (ℕ × X)) (s : ℕ × X) (next : List ℕ) → s.0 < n → Counts n all xs next → Counts n all (xs ++ s ∷ []) (set next s.0 (get_or next s.0 0 + wide (s.1 ∷ [])))
    counts_more n all xs s next h counts = record {
      long = length-set next s.0 (get_or next s.0 0 + wide (s.1 ∷ [])) ∙ counts.long;
      each = λ k below. at_chunk k below (cases_eq k s.0);
    }
      where
        at_chunk : (k : ℕ) → k < n → (k ≡ s.0) ⊎ (k ≡ s.0 → ⊥) →
            get_or (set next s.0 (get_or next s.0 0 + wide (s.1 ∷ []))) k 0 ≡ total (take k (widths (dealt 0 n all))) + wide (bucket_of k (xs ++ s ∷ []))
        at_chunk k below (inl e) =
            let grown : wide (bucket_of s.0 (xs ++ s ∷ [])) ≡ wide (bucket_of s.0 xs) + wide (s.1 ∷ []) =
            ap wide (bucket-append s.0 xs (s ∷ []) ∙ ap (λ b. bucket_of s.0 xs ++ b) (bucket_yes s.0 s [] refl))
            ∙ ap length (both (bucket_of s.0 xs) (s.1 ∷ [])) ∙ length-append (spread (bucket_of s.0 xs)) (spread (s.1 ∷ [])) in
            subst (λ j. get_or (set next s.0 (get_or next s.0 0 + wide (s.1 ∷ []))) j 0 ≡ total (take j (widths (dealt 0 n all))) + wide (bucket_of j (xs ++ s ∷ []))) (sym e)
            (get_or-set_same next s.0 (get_or next s.0 0 + wide (s.1 ∷ [])) 0 (omega (arith, counts.long)) ∙ omega (arith, counts.each s.0 h, grown))
        at_chunk k below (inr ne) =
            get_or-set_other next s.0 k (get_or next s.0 0 + wide (s.1 ∷ [])) 0 ne ∙ counts.each k below
            ∙ ap (λ b. total (take k (widths (dealt 0 n all))) + wide b)
            (sym (bucket-append k xs (s ∷ []) ∙ ap (λ b. bucket_of k xs ++ b) (bucket_no k s [] (λ e. ne (sym e))) ∙ append-nil (bucket_of k xs)))
