-- What a filter and a mask keep, exception by exception.
use Rattle.std.proofs.Common.{◌≡◌, ℕ, ◌+◌, ◌≤◌, ◌<◌, Bool, true, false, not, cond, List, [], ◌∷◌, ◌++◌, length, get_or, take, map, sym, ◌∙◌, ap, arith}
use Rattle.std.specs.List.{filter}
use Rattle.std.proofs.lemmas.List.{take_more, map-append, append-nil, take_all, length-take}
use Rattle.std.proofs.lemmas.List.Elements.{filter-append}
use Rattle.vx_patch_select.specs.declared.plan.Kept.{Kept}
use Rattle.vx_patch_select.specs.Selected.{bit_at, rank, kept_pairs, unmasked_pairs}
use Rattle.vx_patch_select.specs.Plans.{placed_from, placed, kept_of, IsKeptTo}

placed-push : (at : ℕ) (rows : List ℕ) (row : ℕ) → placed_from at (rows ++ row ∷ []) ≡ placed_from at rows ++ (row, at + length rows) ∷ []
placed-push at [] row = let e : at ≡ at + 0 = omega arith in ap (λ (n : ℕ). (row, n) ∷ []) e
placed-push at (r ∷ rs) row =
    let e : at + 1 + length rs ≡ at + length (r ∷ rs) = omega arith in
    ap (λ (ps : List (ℕ × ℕ)). (r, at) ∷ ps) (placed-push (at + 1) rs row ∙ ap (λ (n : ℕ). placed_from (at + 1) rs ++ (row, n) ∷ []) e)

-- one exception more
pub placed_more : (rows : List ℕ) (i row : ℕ) → i < length rows → row ≡ get_or rows i 0 → placed (take (i + 1) rows) ≡ placed (take i rows) ++ (row, i) ∷ []
placed_more rows i row h e =
    let long : 0 + length (take i rows) ≡ i = omega (arith, length-take i rows) in
    ap placed (take_more rows i 0 h) ∙ placed-push 0 (take i rows) (get_or rows i 0)
    ∙ ap (λ (n : ℕ). placed (take i rows) ++ (n, 0 + length (take i rows)) ∷ []) (sym e) ∙ ap (λ (n : ℕ). placed (take i rows) ++ (row, n) ∷ []) long

kept-append : {A : Type 0} (bits : List Bool) (ps qs : List (ℕ × A)) → kept_pairs bits (ps ++ qs) ≡ kept_pairs bits ps ++ kept_pairs bits qs
kept-append {A} bits ps qs =
    ap (map (λ (p : ℕ × A). (rank bits p.0, p.1))) (filter-append (λ (p : ℕ × A). bit_at bits p.0) ps qs)
    ∙ map-append (λ (p : ℕ × A). (rank bits p.0, p.1)) (filter (λ (p : ℕ × A). bit_at bits p.0) ps) (filter (λ (p : ℕ × A). bit_at bits p.0) qs)

pub pairs_kept_yes : (bits : List Bool) (rows : List ℕ) (i row : ℕ) → i < length rows → row ≡ get_or rows i 0 → bit_at bits row ≡ true →
    kept_pairs bits (placed (take (i + 1) rows)) ≡ kept_pairs bits (placed (take i rows)) ++ (rank bits row, i) ∷ []
pairs_kept_yes bits rows i row h e b =
    ap (kept_pairs bits) (placed_more rows i row h e) ∙ kept-append bits (placed (take i rows)) ((row, i) ∷ [])
    ∙ ap (λ (t : Bool). kept_pairs bits (placed (take i rows)) ++ map (λ (p : ℕ × ℕ). (rank bits p.0, p.1)) (cond t ((row, i) ∷ []) [])) b

pub pairs_kept_no : (bits : List Bool) (rows : List ℕ) (i row : ℕ) → i < length rows → row ≡ get_or rows i 0 → bit_at bits row ≡ false →
    kept_pairs bits (placed (take (i + 1) rows)) ≡ kept_pairs bits (placed (take i rows))
pairs_kept_no bits rows i row h e b =
    ap (kept_pairs bits) (placed_more rows i row h e) ∙ kept-append bits (placed (take i rows)) ((row, i) ∷ [])
    ∙ ap (λ (t : Bool). kept_pairs bits (placed (take i rows)) ++ map (λ (p : ℕ × ℕ). (rank bits p.0, p.1)) (cond t ((row, i) ∷ []) [])) b
    ∙ append-nil (kept_pairs bits (placed (take i rows)))

pub kept_yes : (bits : List Bool) (rows : List ℕ) (i row : ℕ) (old new : Kept) → IsKeptTo bits rows i old → i < length rows → row ≡ get_or rows i 0 → bit_at bits row ≡ true →
    new.places ≡ old.places ++ i ∷ [] → new.indices ≡ old.indices ++ rank bits row ∷ [] → IsKeptTo bits rows (i + 1) new
kept_yes bits rows i row old new k h e b p q =
    let ps = kept_pairs bits (placed (take i rows)) in
    let more = pairs_kept_yes bits rows i row h e b in
    record {
      places = p ∙ ap (λ (xs : List ℕ). xs ++ i ∷ []) k.places ∙ sym (map-append (λ (r : ℕ × ℕ). r.1) ps ((rank bits row, i) ∷ [])) ∙ sym (ap (map (λ (r : ℕ × ℕ). r.1)) more);
      indices = q ∙ ap (λ (xs : List ℕ). xs ++ rank bits row ∷ []) k.indices ∙ sym (map-append (λ (r : ℕ × ℕ). r.0) ps ((rank bits row, i) ∷ [])) ∙ sym (ap (map (λ (r : ℕ × ℕ). r.0)) more);
    }

pub kept_no : (bits : List Bool) (rows : List ℕ) (i row : ℕ) (old : Kept) → IsKeptTo bits rows i old → i < length rows → row ≡ get_or rows i 0 → bit_at bits row ≡ false → IsKeptTo bits rows (i + 1) old
kept_no bits rows i row old k h e b =
    let same = pairs_kept_no bits rows i row h e b in
    record { places = k.places ∙ sym (ap (map (λ (r : ℕ × ℕ). r.1)) same); indices = k.indices ∙ sym (ap (map (λ (r : ℕ × ℕ). r.0)) same) }

made_kept : List ℕ → List ℕ → Kept
made_kept places indices = record { places = places; indices = indices }

pub kept_start : (bits : List Bool) (rows : List ℕ) (kept : Kept) → kept ≡ kept_of [] → IsKeptTo bits rows 0 kept
kept_start bits rows kept e = record { places = ap (λ (k : Kept). k.places) e; indices = ap (λ (k : Kept). k.indices) e }

-- all of them
pub kept_all : (bits : List Bool) (rows : List ℕ) (n : ℕ) (kept : Kept) → length rows ≤ n → IsKeptTo bits rows n kept → kept ≡ kept_of (kept_pairs bits (placed rows))
unfolding made_kept
kept_all bits rows n kept h k =
    let all : take n rows ≡ rows = take_all n rows h in
    let places : kept.places ≡ map (λ (p : ℕ × ℕ). p.1) (kept_pairs bits (placed rows)) = k.places ∙ ap (λ (ns : List ℕ). map (λ (p : ℕ × ℕ). p.1) (kept_pairs bits (placed ns))) all in
    let indices : kept.indices ≡ map (λ (p : ℕ × ℕ). p.0) (kept_pairs bits (placed rows)) = k.indices ∙ ap (λ (ns : List ℕ). map (λ (p : ℕ × ℕ). p.0) (kept_pairs bits (placed ns))) all in
    ap (λ (ps : List ℕ). made_kept ps kept.indices) places ∙ ap (made_kept (map (λ (p : ℕ × ℕ). p.1) (kept_pairs bits (placed rows)))) indices

-- ---- masks

abbrev pub places_left : List Bool → List ℕ → List ℕ
places_left bits rows = map (λ (p : ℕ × ℕ). p.1) (unmasked_pairs bits (placed rows))

left_more : (bits : List Bool) (rows : List ℕ) (i row : ℕ) → i < length rows → row ≡ get_or rows i 0 →
    places_left bits (take (i + 1) rows) ≡ places_left bits (take i rows) ++ map (λ (p : ℕ × ℕ). p.1) (cond (not (bit_at bits row)) ((row, i) ∷ []) [])
left_more bits rows i row h e =
    let test = λ (p : ℕ × ℕ). not (bit_at bits p.0) in
    ap (λ (ps : List (ℕ × ℕ)). map (λ (p : ℕ × ℕ). p.1) (filter test ps)) (placed_more rows i row h e)
    ∙ ap (map (λ (p : ℕ × ℕ). p.1)) (filter-append test (placed (take i rows)) ((row, i) ∷ []))
    ∙ map-append (λ (p : ℕ × ℕ). p.1) (filter test (placed (take i rows))) (filter test ((row, i) ∷ []))

pub left_yes : (bits : List Bool) (rows : List ℕ) (i row : ℕ) → i < length rows → row ≡ get_or rows i 0 → bit_at bits row ≡ false → places_left bits (take (i + 1) rows) ≡ places_left bits (take i rows) ++ i ∷ []
left_yes bits rows i row h e b = left_more bits rows i row h e ∙ ap (λ (t : Bool). places_left bits (take i rows) ++ map (λ (p : ℕ × ℕ). p.1) (cond (not t) ((row, i) ∷ []) [])) b

pub left_no : (bits : List Bool) (rows : List ℕ) (i row : ℕ) → i < length rows → row ≡ get_or rows i 0 → bit_at bits row ≡ true → places_left bits (take (i + 1) rows) ≡ places_left bits (take i rows)
left_no bits rows i row h e b =
    left_more bits rows i row h e ∙ ap (λ (t : Bool). places_left bits (take i rows) ++ map (λ (p : ℕ × ℕ). p.1) (cond (not t) ((row, i) ∷ []) [])) b ∙ append-nil (places_left bits (take i rows))

pub left_all : (bits : List Bool) (rows : List ℕ) (n : ℕ) → length rows ≤ n → places_left bits (take n rows) ≡ places_left bits rows
left_all bits rows n h = ap (places_left bits) (take_all n rows h)
