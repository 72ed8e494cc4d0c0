-- What is wanted of lists, dealt out and put back.
use Rattle.std.proofs.Common.{arith, refl, sym, ◌∙◌, ap, subst, ◌≡◌, ◌≢◌, ◌⊎◌, inl, inr, ◌<◌, ◌+◌, ◌==◌, ℕ, Bool, true, false, cond, List, [], ◌∷◌, ◌++◌, map, length, get_or, set, take, drop, reverse, Option, None, Result, Ok, Err, OnOk}
use Rattle.std.proofs.lemmas.Bool.{eq-eqb, eqb-true}
use Rattle.std.proofs.lemmas.Bool.Decides.{eqb_tells}
use Rattle.std.proofs.lemmas.List.{take_more, drop_more, map-append, length-map, length-set, get_or-set_same, get_or-set_other, reverse-append, append-nil, length-append}
use Rattle.std.proofs.lemmas.List.Elements.{filter-append, filter_passes, All-filter, All-push, All-map}
use Rattle.std.specs.List.{All, filter}
use Rattle.vx_rows.specs.declared.value.Value.{Value}
use Rattle.vx_job.specs.Rows.{Rows, interleaved}
use Rattle.vx_job.specs.Rows.{picked as rows_at}
use Rattle.vx_select.specs.Spots.{Lists, Spot, AreBelow, wanted, AreAnswers, IsThere, IsSpotOf, AreSpotsOf}

wanted-append : (k : ℕ) (xs ys : List Spot) → wanted k (xs ++ ys) ≡ wanted k xs ++ wanted k ys
wanted-append k xs ys =
    ap (map (λ (s : Spot). s.1)) (filter-append (λ (s : Spot). s.0 == k) xs ys)
    ∙ map-append (λ (s : Spot). s.1) (filter (λ (s : Spot). s.0 == k) xs) (filter (λ (s : Spot). s.0 == k) ys)

wanted_more : (k : ℕ) (spots : List Spot) (i : ℕ) (s : Spot) → i < length spots → s ≡ get_or spots i s → wanted k (take (i + 1) spots) ≡ wanted k (take i spots) ++ wanted k (s ∷ [])
wanted_more k spots i s h e =
    ap (wanted k) (take_more spots i s h ∙ ap (λ x. take i spots ++ x ∷ []) (sym e)) ∙ wanted-append k (take i spots) (s ∷ [])

wanted_by : (k : ℕ) (s : Spot) (b : Bool) → (s.0 == k) ≡ b → wanted k (s ∷ []) ≡ cond b (s.1 ∷ []) []
wanted_by k s true e = ap (λ b. map (λ (x : Spot). x.1) (cond b (s ∷ []) [])) e
wanted_by k s false e = ap (λ b. map (λ (x : Spot). x.1) (cond b (s ∷ []) [])) e

-- a spot more is wanted of its own list
pub wanted_here : (spots : List Spot) (i : ℕ) (s : Spot) → i < length spots → s ≡ get_or spots i s → wanted s.0 (take (i + 1) spots) ≡ wanted s.0 (take i spots) ++ s.1 ∷ []
wanted_here spots i s h e =
    wanted_more s.0 spots i s h e ∙ ap (λ x. wanted s.0 (take i spots) ++ x) (wanted_by s.0 s true (eq-eqb s.0 s.0 refl))

-- and of no other
pub wanted_elsewhere : (k : ℕ) (spots : List Spot) (i : ℕ) (s : Spot) → i < length spots → s ≡ get_or spots i s → (s.0 == k) ≡ false → wanted k (take (i + 1) spots) ≡ wanted k (take i spots)
wanted_elsewhere k spots i s h e ne =
    wanted_more k spots i s h e ∙ ap (λ x. wanted k (take i spots) ++ x) (wanted_by k s false ne) ∙ append-nil (wanted k (take i spots))

-- one spot is taken back: its row is the last of its list
pub back_row : (values : Lists) (spots : List Spot) (i : ℕ) (s : Spot) (answers : Lists) → i < length spots → s ≡ get_or spots i s → s.0 < length answers →
    AreAnswers values (take (i + 1) spots) answers →
    get_or answers s.0 [] ≡ rows_at (get_or values s.0 []) (wanted s.0 (take i spots)) ++ get_or (get_or values s.0 []) s.1 None ∷ []
back_row values spots i s answers h e within known =
    known s.0 within ∙ ap (rows_at (get_or values s.0 [])) (wanted_here spots i s h e)
    ∙ map-append (λ p. get_or (get_or values s.0 []) p None) (wanted s.0 (take i spots)) (s.1 ∷ [])

pub back_step : (values : Lists) (spots : List Spot) (i : ℕ) (s : Spot) (answers new : Lists) → i < length spots → s ≡ get_or spots i s → s.0 < length answers →
    AreAnswers values (take (i + 1) spots) answers → new ≡ set answers s.0 (rows_at (get_or values s.0 []) (wanted s.0 (take i spots))) → AreAnswers values (take i spots) new
back_step values spots i s answers new h e within known is =
    λ k below. each k (omega (arith, below, ap length is, length-set answers s.0 back)) (eqb_tells s.0 k)
  where
    back : Rows
    back = rows_at (get_or values s.0 []) (wanted s.0 (take i spots))

    each : (k : ℕ) → k < length answers → (((s.0 == k) ≡ true) × (s.0 ≡ k)) ⊎ (((s.0 == k) ≡ false) × (s.0 ≢ k)) → get_or new k [] ≡ rows_at (get_or values k []) (wanted k (take i spots))
    each k below (inl same) =
        subst (λ j. get_or new j [] ≡ rows_at (get_or values j []) (wanted j (take i spots))) same.1
        (ap (λ ls. get_or ls s.0 []) is ∙ get_or-set_same answers s.0 (rows_at (get_or values s.0 []) (wanted s.0 (take i spots))) [] within)
    each k below (inr other) =
        ap (λ ls. get_or ls k []) is ∙ get_or-set_other answers s.0 k (rows_at (get_or values s.0 []) (wanted s.0 (take i spots))) [] (λ k_is. other.1 (sym k_is))
        ∙ known k below ∙ ap (rows_at (get_or values k [])) (wanted_elsewhere k spots i s h e other.0)

-- the rows put back, and one before them
pub interleaved_before : (values : Lists) (spots : List Spot) (i : ℕ) (s : Spot) (back : Rows) → i < length spots → s ≡ get_or spots i s → reverse back ≡ interleaved values (drop (i + 1) spots) →
    reverse (back ++ get_or (get_or values s.0 []) s.1 None ∷ []) ≡ interleaved values (drop i spots)
interleaved_before values spots i s back h e known =
    let row = get_or (get_or values s.0 []) s.1 None in
    reverse-append back (row ∷ []) ∙ ap (λ r. row ∷ r) known
    ∙ ap (interleaved values) (ap (λ x. x ∷ drop (i + 1) spots) e ∙ sym (drop_more spots i s h))

-- what is wanted of a list stands there
pub wanted_there : (values : Lists) (spots : List Spot) (k : ℕ) → All (IsThere values) spots → AreBelow (length (get_or values k [])) (wanted k spots)
wanted_there values spots k there =
    let kept = filter (λ (s : Spot). s.0 == k) spots in
    let all = All-filter (λ (s : Spot). s.0 == k) (IsThere values) spots there in
    let passes = filter_passes (λ (s : Spot). s.0 == k) spots in
    All-map (λ p. p < length (get_or values k [])) (λ (s : Spot). s.1) kept
    (λ i d h. let at = get_or kept i d in subst (λ n. at.1 < length (get_or values n [])) (eqb-true at.0 k (passes i d h)) (all i d h).1)

pub at_row : (rows : Rows) (places : List ℕ) (i p : ℕ) → i < length places → p ≡ get_or places i 0 → rows_at rows (take (i + 1) places) ≡ rows_at rows (take i places) ++ get_or rows p None ∷ []
at_row rows places i p h e =
    ap (rows_at rows) (take_more places i 0 h ∙ ap (λ x. take i places ++ x ∷ []) (sym e)) ∙ map-append (λ q. get_or rows q None) (take i places) (p ∷ [])

-- a spot more
pub spots_more : (values : Lists) (rows : Rows) (places : List ℕ) (i p : ℕ) (spots : List Spot) (s : Spot) → i < length places → p ≡ get_or places i 0 →
    AreSpotsOf values rows (take i places) spots → IsSpotOf values rows p s → AreSpotsOf values rows (take (i + 1) places) (spots ++ s ∷ [])
spots_more values rows places i p spots s h e before is = record {
  there = All-push (IsThere values) spots s before.there is.there;
  rows = map-append (λ (x : Spot). get_or (get_or values x.0 []) x.1 None) spots (s ∷ []) ∙ ap (λ r. r ++ get_or (get_or values s.0 []) s.1 None ∷ []) before.rows
      ∙ ap (λ row. rows_at rows (take i places) ++ row ∷ []) is.row ∙ sym (at_row rows places i p h e);
}

-- there are as many spots as places
pub spots_long : (values : Lists) (rows : Rows) (places : List ℕ) (spots : List Spot) → AreSpotsOf values rows places spots → length spots ≡ length places
spots_long values rows places spots are =
    sym (length-map spots (λ (x : Spot). get_or (get_or values x.0 []) x.1 None)) ∙ ap length are.rows ∙ length-map places (λ p. get_or rows p None)

-- a list of which something is wanted has a last row
pub some_left : (values : Lists) (spots : List Spot) (i : ℕ) (s : Spot) (answers : Lists) → i < length spots → s ≡ get_or spots i s → s.0 < length answers →
    AreAnswers values (take (i + 1) spots) answers → 0 < length (get_or answers s.0 [])
some_left values spots i s answers h e within known =
    let front = rows_at (get_or values s.0 []) (wanted s.0 (take i spots)) in
    let row = get_or (get_or values s.0 []) s.1 None in
    omega (arith, ap length (back_row values spots i s answers h e within known), length-append front (row ∷ []))

-- what a call gives at each choice where it succeeds, in other words
pub each_on_ok : {A E : Type 0} (P Q R S : Rows → Option Value → Type 0) (r : Result A E) → ((front : Rows) (row : Option Value) → P front row → Q front row) →
    ((front : Rows) (row : Option Value) → R front row → S front row) → ((front : Rows) (row : Option Value) → Q front row → OnOk r (R front row)) →
    OnOk r ((front : Rows) (row : Option Value) → P front row → S front row)
each_on_ok P Q R S (Ok x) up down h = λ front row e. down front row (h front row (up front row e))
each_on_ok P Q R S (Err e) up down h = tt
