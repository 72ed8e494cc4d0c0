-- The pairs of place and value that a layout means, and the exceptions of rows.
use Rattle.std.proofs.Common.{◌≡◌, ℕ, zero, suc, ◌+◌, ◌-◌, ◌<◌, ◌≤◌, inl, inr, List, [], ◌∷◌, ◌++◌, get_or, refl, sym, ◌∙◌, ap, subst, arith, Option, Some, None, Bool, true, false, cond, eqb}
use Rattle.std.specs.Option.{option_or, option_map}
use Rattle.std.proofs.lemmas.Bool.{cases_eq}
use Rattle.std.proofs.lemmas.Bool.Decides.{nat_tests}
use Rattle.vx_rows.specs.declared.value.Value.{Value}
use Rattle.vx_lanes.specs.declared.layout.Layout.{Layout}
use Rattle.vx_lanes.specs.Layouts.{IsLayout, Excepts, excepts, first_below, exception_of, exceptions, value_of, value_under, row_under, overlaid, entries, lane_start, pairs_from, pairs_in, pairs_of, paired_with, replaced}
use Rattle.vx_lanes.proofs.Columns.{overlaid_row}
use Rattle.vx_lanes.proofs.Entries.{entry_inside}
use Rattle.vx_lanes.proofs.Exceptions.{Belongs, entry_of, entry_of_within, excepts_true, excepts_tells, one_exception, holds}
use Rattle.vx_lanes.proofs.Overlays.{stands_at, stands, stands_back, one_entry}

-- the first pair of two lists joined
paired_join : (xs ys : List (ℕ × Option Value)) (place : ℕ) → paired_with (xs ++ ys) place ≡ option_or (paired_with xs place) (paired_with ys place)
unfolding paired_with
paired_join [] ys place = refl
paired_join (x ∷ xs) ys place = by_cases (eqb x.0 place) refl (paired_join xs ys place)
  where
    by_cases : (b : Bool) → eqb x.0 place ≡ b → paired_with (xs ++ ys) place ≡ option_or (paired_with xs place) (paired_with ys place) → cond (eqb x.0 place) (Some x.1) (paired_with (xs ++ ys) place) ≡ option_or (cond (eqb x.0 place) (Some x.1) (paired_with xs place)) (paired_with ys place)
    by_cases true e r = ap (λ b. cond b (Some x.1) (paired_with (xs ++ ys) place)) e ∙ sym (ap (λ b. option_or (cond b (Some x.1) (paired_with xs place)) (paired_with ys place)) e)
    by_cases false e r = ap (λ b. cond b (Some x.1) (paired_with (xs ++ ys) place)) e ∙ r ∙ sym (ap (λ b. option_or (cond b (Some x.1) (paired_with xs place)) (paired_with ys place)) e)

-- one pair in front: at the place, or elsewhere
pair_here : (l : Layout) (g k n place : ℕ) → stands_at l g k ≡ place → paired_with (pairs_from l g k (suc n)) place ≡ Some (value_of l k)
unfolding paired_with pairs_from
pair_here l g k n place e =
    let test : eqb (stands_at l g k) place ≡ true = grind (arith, nat_tests) in
    ap (λ b. cond b (Some (value_of l k)) (paired_with (pairs_from l g (k + 1) n) place)) test

pair_apart : (l : Layout) (g k n place : ℕ) → (stands_at l g k ≡ place → ⊥) → paired_with (pairs_from l g k (suc n)) place ≡ paired_with (pairs_from l g (k + 1) n) place
unfolding paired_with pairs_from
pair_apart l g k n place never = ap (λ b. cond b (Some (value_of l k)) (paired_with (pairs_from l g (k + 1) n) place)) (by_cases (eqb (stands_at l g k) place) refl)
  where
    by_cases : (b : Bool) → eqb (stands_at l g k) place ≡ b → eqb (stands_at l g k) place ≡ false
    by_cases true e = absurd (never (grind (arith, nat_tests)))
    by_cases false e = e

no_pair : (l : Layout) (g k place : ℕ) → paired_with (pairs_from l g k 0) place ≡ None
unfolding paired_with pairs_from
no_pair l g k place = refl

none_from : (l : Layout) (g k n place : ℕ) → ((m : ℕ) → k ≤ m → m < k + n → stands_at l g m ≡ place → ⊥) → paired_with (pairs_from l g k n) place ≡ None
none_from l g k zero place never = no_pair l g k place
none_from l g k (suc n) place never = pair_apart l g k n place (never k (omega arith) (omega arith)) ∙ none_from l g (k + 1) n place (λ m a b. never m (omega arith) (omega arith))

some_from : (l : Layout) (g k n m place : ℕ) → k ≤ m → m < k + n → stands_at l g m ≡ place → ((j : ℕ) → k ≤ j → j < k + n → stands_at l g j ≡ place → j ≡ m) → paired_with (pairs_from l g k n) place ≡ Some (value_of l m)
some_from l g k zero m place a b e only = absurd (omega arith)
some_from l g k (suc n) m place a b e only =
    elim (cases_eq k m) as (λ _. paired_with (pairs_from l g k (suc n)) place ≡ Some (value_of l m)) [
      | inl same ↦ pair_here l g k n place (ap (λ (j : ℕ). stands_at l g j) same ∙ e) ∙ ap (λ (j : ℕ). Some (value_of l j)) same
      | inr apart ↦
          pair_apart l g k n place (λ f. apart (only k (omega arith) (omega arith) f))
          ∙ some_from l g (k + 1) n m place (omega arith) (omega arith) e (λ j c d f. only j (omega arith) (omega arith) f)
    ]

-- one entry in front
entry_joined : (l : Layout) (g n place : ℕ) → paired_with (pairs_in l g (suc n)) place ≡ option_or (paired_with (pairs_from l g (lane_start l g) (lane_start l (g + 1) - lane_start l g)) place) (paired_with (pairs_in l (g + 1) n) place)
unfolding pairs_in
entry_joined l g n place = paired_join (pairs_from l g (lane_start l g) (lane_start l (g + 1) - lane_start l g)) (pairs_in l (g + 1) n) place

no_entry : (l : Layout) (g place : ℕ) → paired_with (pairs_in l g 0) place ≡ None
unfolding paired_with pairs_in
no_entry l g place = refl

none_in : (l : Layout) (g n place : ℕ) → ((h m : ℕ) → g ≤ h → h < g + n → Belongs l h m → stands_at l h m ≡ place → ⊥) → paired_with (pairs_in l g n) place ≡ None
none_in l g zero place never = no_entry l g place
none_in l g (suc n) place never =
    let first : paired_with (pairs_from l g (lane_start l g) (lane_start l (g + 1) - lane_start l g)) place ≡ None =
    none_from l g (lane_start l g) (lane_start l (g + 1) - lane_start l g) place (λ m a b e. never g m (omega arith) (omega arith) (record { from = a; below = omega arith }) e) in
    entry_joined l g n place ∙ ap (λ o. option_or o (paired_with (pairs_in l (g + 1) n) place)) first ∙ none_in l (g + 1) n place (λ h m a b r e. never h m (omega arith) (omega arith) r e)

some_in : (l : Layout) (g n h k place : ℕ) → g ≤ h → h < g + n → Belongs l h k → stands_at l h k ≡ place → ((i m : ℕ) → g ≤ i → i < g + n → Belongs l i m → stands_at l i m ≡ place → (i ≡ h) × (m ≡ k)) → paired_with (pairs_in l g n) place ≡ Some (value_of l k)
some_in l g zero h k place a b r e only = absurd (omega arith)
some_in l g (suc n) h k place a b r e only =
    elim (cases_eq g h) as (λ _. paired_with (pairs_in l g (suc n)) place ≡ Some (value_of l k)) [
      | inl same ↦
          let from : lane_start l g ≤ k = omega (arith, r.from, ap (lane_start l) same) in
          let below : k < lane_start l (g + 1) = omega (arith, r.below, ap (λ i. lane_start l (i + 1)) same) in
          let first : paired_with (pairs_from l g (lane_start l g) (lane_start l (g + 1) - lane_start l g)) place ≡ Some (value_of l k) =
          some_from l g (lane_start l g) (lane_start l (g + 1) - lane_start l g) k place from (omega arith) (ap (λ (i : ℕ). stands_at l i k) same ∙ e)
          (λ j c d f. (only g j (omega arith) (omega arith) (record { from = c; below = omega arith }) f).1) in
          entry_joined l g n place ∙ ap (λ o. option_or o (paired_with (pairs_in l (g + 1) n) place)) first
      | inr apart ↦
          let first : paired_with (pairs_from l g (lane_start l g) (lane_start l (g + 1) - lane_start l g)) place ≡ None =
          none_from l g (lane_start l g) (lane_start l (g + 1) - lane_start l g) place
          (λ m c d f. apart (only g m (omega arith) (omega arith) (record { from = c; below = omega arith }) f).0) in
          entry_joined l g n place ∙ ap (λ o. option_or o (paired_with (pairs_in l (g + 1) n) place)) first
          ∙ some_in l (g + 1) n h k place (omega arith) (omega arith) r e (λ i m c d q f. only i m (omega arith) (omega arith) q f)
    ]

-- what the first number of a search passes, and what none passes
first_passes : (test : ℕ → Bool) (n k : ℕ) → first_below test n ≡ Some k → test k ≡ true
unfolding first_below
first_passes test zero k e = absurd cc
first_passes test (suc n) k e = by_cases (first_below test n) (test n) refl e (first_passes test n k)
  where
    by_cases : (o : Option ℕ) (b : Bool) → test n ≡ b → option_or o (cond b (Some n) None) ≡ Some k → (o ≡ Some k → test k ≡ true) → test k ≡ true
    by_cases (Some m) b t f r = r f
    by_cases None true t f r =
        let same : n ≡ k = cc in
        ap test (sym same) ∙ t
    by_cases None false t f r = absurd cc

first_fails : (test : ℕ → Bool) (n k : ℕ) → first_below test n ≡ None → k < n → test k ≡ true → ⊥
unfolding first_below
first_fails test zero k e h t = omega arith
first_fails test (suc n) k e h t = by_cases (first_below test n) (test n) refl e (first_fails test n k)
  where
    by_cases : (o : Option ℕ) (b : Bool) → test n ≡ b → option_or o (cond b (Some n) None) ≡ None → (o ≡ None → k < n → test k ≡ true → ⊥) → ⊥
    by_cases (Some m) b u f r = cc
    by_cases None true u f r = cc
    by_cases None false u f r =
        elim (cases_eq k n) as (λ _. ⊥) [
          | inl same ↦ let both : true ≡ false = sym t ∙ ap test same ∙ u in cc
          | inr apart ↦ r refl (omega arith) t
        ]

both_same : (l : Layout) (g h m k : ℕ) → IsLayout l → g < entries l → h < entries l → Belongs l g m → Belongs l h k → m ≡ k → (g ≡ h) × (m ≡ k)
both_same l g h m k s u v q r same = (one_entry l g h k s u v (subst (λ (j : ℕ). Belongs l g j) same q) r, same)

-- a row's exception has the value of the one pair at the row's place
pub pairs_mean : (l : Layout) (row : ℕ) → IsLayout l → row < l.len → paired_with (pairs_of l) (l.offset + row) ≡ option_map (value_of l) (exception_of l row)
pairs_mean l row s h = by_cases (exception_of l row) refl
  where
    by_cases : (o : Option ℕ) → exception_of l row ≡ o → paired_with (pairs_of l) (l.offset + row) ≡ option_map (value_of l) (exception_of l row)
    by_cases None e =
        none_in l 0 (entries l) (l.offset + row)
        (λ g k a b r f. first_fails (excepts l row) (exceptions l) k e (entry_inside l g k s (omega arith) r.below) (excepts_true l row k (stands_back l g k row s h (omega arith) r (sym f))))
        ∙ sym (ap (option_map (value_of l)) e)
    by_cases (Some k) e =
        let f : Excepts l row k = excepts_tells l row k (first_passes (excepts l row) (exceptions l) k e) in
        let w : entry_of l row < entries l = entry_of_within l row s h in
        let r : Belongs l (entry_of l row) k = holds l row k s h f in
        some_in l 0 (entries l) (entry_of l row) k (l.offset + row) (omega arith) (omega arith) r (sym (stands l (entry_of l row) k row s h w r f))
        (λ g m a b q p. both_same l g (entry_of l row) m k s (omega arith) w q r (one_exception l row m k s h (stands_back l g m row s h (omega arith) q (sym p)) f))
        ∙ sym (ap (option_map (value_of l)) e)

under_means : (l : Layout) (row : ℕ) (o : Option Value) → row_under l (exceptions l) row o ≡ replaced o (option_map (value_of l) (exception_of l row))
unfolding row_under
under_means l row None = refl
under_means l row (Some v) = by_cases (exception_of l row)
  where
    by_cases : (p : Option ℕ) → value_under l p v ≡ replaced (Some v) (option_map (value_of l) p)
    by_cases None = refl
    by_cases (Some k) = refl

-- and takes the place of a value there
pub overlaid_means : (l : Layout) (rows : List (Option Value)) (row : ℕ) → IsLayout l → row < l.len → get_or (overlaid l rows) row None ≡ replaced (get_or rows row None) (paired_with (pairs_of l) (l.offset + row))
overlaid_means l rows row s h = overlaid_row l rows row ∙ under_means l row (get_or rows row None) ∙ sym (ap (replaced (get_or rows row None)) (pairs_mean l row s h))
