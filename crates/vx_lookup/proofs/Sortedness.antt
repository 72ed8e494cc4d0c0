-- What rows that are sorted say of a value that is looked for.
use Rattle.std.proofs.Common.{◌≡◌, ◌⊎◌, inl, inr, ℕ, ◌+◌, ◌-◌, ◌<◌, ◌≤◌, List, [], ◌∷◌, zero, suc, length, get_or, replicate, refl, sym, ◌∙◌, ap, subst, arith, Option, Some, None, true, false}
use Rattle.std.proofs.lemmas.Bool.{cases_lt}
use Rattle.std.specs.Cmp.{IsTotalOrder, alike_right, tied_itself}
use Rattle.std.specs.List.Sorted.{IsNonDecreasingBy}
use Rattle.std.specs.Ordering.{is_lt, ordering_index, ordering_reverse}
use Rattle.std.specs.declared.cmp.Ordering.{Ordering}
use Rattle.std.specs.declared.cmp.Ordering.TheVariants.{Less, Equal, Greater}
use Rattle.std.proofs.lemmas.List.Sorted.{IsNonDecreasingBy-from_default}
use Rattle.vx_rows.specs.Order.{row_cmp}
use Rattle.vx_rows.specs.declared.value.Value.{Value}
use Rattle.vx_job.specs.Rows.{Rows}
use Rattle.vx_job.specs.Lookups.{FallsAt, IsAscending}

highest : (o : Ordering) → ordering_index o ≤ 2
highest Less = omega arith
highest Equal = omega arith
highest Greater = omega arith

lowest : (o p : Ordering) → o ≡ Less → ordering_index o ≤ ordering_index p
lowest o p e = subst (λ q. ordering_index q ≤ ordering_index p) (sym e) (omega arith)

module _ {K : Type 0} (R : K → K → Ordering) (total : IsTotalOrder R) where
  -- an element that isn't above another stands no higher to any value
  pub no_higher : (x y v : K) → (R x y ≡ Greater → ⊥) → ordering_index (R x v) ≤ ordering_index (R y v)
  no_higher x y v h = by (R x y) (R y v) refl refl
    where
      by : (xy yv : Ordering) → R x y ≡ xy → R y v ≡ yv → ordering_index (R x v) ≤ ordering_index (R y v)
      by Greater yv e f = absurd (h e)
      by Equal yv e f = let same = ap ordering_index (total.congr x y v e) in omega (arith, same)
      by Less Less e f = lowest (R x v) (R y v) (total.trans x y v e f)
      by Less Equal e f = lowest (R x v) (R y v) (sym (alike_right total y v x f) ∙ e)
      by Less Greater e f = subst (λ o. ordering_index (R x v) ≤ ordering_index o) (sym f) (highest (R x v))

-- sorted rows rise to any value
pub rises : (total : IsTotalOrder row_cmp) (v : Option Value) (rows : Rows) → IsAscending rows → IsNonDecreasingBy (λ x. ordering_index (row_cmp x v)) rows
rises total v rows ascends = IsNonDecreasingBy-from_default (λ x. ordering_index (row_cmp x v)) rows None upward
  where
    next : (k : ℕ) → k + 1 < length rows → ordering_index (row_cmp (get_or rows k None) v) ≤ ordering_index (row_cmp (get_or rows (k + 1) None) v)
    next k short = no_higher row_cmp total (get_or rows k None) (get_or rows (k + 1) None) v (λ above. ascends k (short, above))

    by_distance : (d i : ℕ) → i + d < length rows → ordering_index (row_cmp (get_or rows i None) v) ≤ ordering_index (row_cmp (get_or rows (i + d) None) v)
    by_distance zero i short =
        let e : i ≡ i + 0 = omega arith in
        subst (λ (k : ℕ). ordering_index (row_cmp (get_or rows i None) v) ≤ ordering_index (row_cmp (get_or rows k None) v)) e (omega arith)
    by_distance (suc d) i short =
        let e : (i + d) + 1 ≡ i + suc d = omega arith in
        let far = by_distance d i (omega arith) in
        let near = subst (λ (k : ℕ). ordering_index (row_cmp (get_or rows (i + d) None) v) ≤ ordering_index (row_cmp (get_or rows k None) v)) e (next (i + d) (omega arith)) in
        omega arith

    upward : (i j : ℕ) → i ≤ j → j < length rows → ordering_index (row_cmp (get_or rows i None) v) ≤ ordering_index (row_cmp (get_or rows j None) v)
    upward i j order short =
        let e : i + (j - i) ≡ j = omega arith in
        subst (λ (k : ℕ). ordering_index (row_cmp (get_or rows i None) v) ≤ ordering_index (row_cmp (get_or rows k None) v)) e (by_distance (j - i) i (omega arith))

-- where the later row is before the earlier one, the earlier one is above it, and the other way round
pub above : IsTotalOrder row_cmp → (x y : Option Value) → row_cmp y x ≡ Less → row_cmp x y ≡ Greater
above total x y e = total.antisymm x y ∙ ap ordering_reverse e

pub below : IsTotalOrder row_cmp → (x y : Option Value) → row_cmp x y ≡ Greater → row_cmp y x ≡ Less
below total x y e = total.antisymm y x ∙ ap ordering_reverse e

-- no row is before a null
pub none_before : (x : Option Value) → row_cmp x None ≡ Less → ⊥
none_before None h = cc
none_before (Some v) h = cc

at_repeated : (n k : ℕ) (x d : Option Value) → k < n → get_or (replicate n x) k d ≡ x
at_repeated zero k x d h = absurd (omega arith)
at_repeated (suc n) zero x d h = refl
at_repeated (suc n) (suc k) x d h = at_repeated n k x d (omega arith)

-- a row that is repeated is sorted
pub repeated_ascends : IsTotalOrder row_cmp → (rows : Rows) (x : Option Value) → rows ≡ replicate (length rows) x → IsAscending rows
repeated_ascends total rows x same k falls =
    let n = length rows in
    let short = falls.0 in
    let first : get_or rows k None ≡ x = ap (λ (xs : Rows). get_or xs k None) same ∙ at_repeated n k x None (omega arith) in
    let second : get_or rows (k + 1) None ≡ x = ap (λ (xs : Rows). get_or xs (k + 1) None) same ∙ at_repeated n (k + 1) x None (omega arith) in
    let equal = tied_itself total x in
    cc

-- where the row is before what stands in front of it, an earlier one is above its successor
falls_there : IsTotalOrder row_cmp → (rows : Rows) (i : ℕ) (before : Option Value) → i < length rows → before ≡ get_or (None ∷ rows) i None
    → row_cmp (get_or rows i None) before ≡ Less → (k : ℕ) × FallsAt rows k
falls_there total rows zero before short here less = absurd (none_before (get_or rows zero None) (subst (λ b. row_cmp (get_or rows zero None) b ≡ Less) here less))
falls_there total rows (suc k) before short here less =
    let e : k + 1 ≡ suc k = omega arith in
    let fact : row_cmp (get_or rows (suc k) None) (get_or rows k None) ≡ Less = subst (λ b. row_cmp (get_or rows (suc k) None) b ≡ Less) here less in
    (k, (omega arith, subst (λ (j : ℕ). row_cmp (get_or rows k None) (get_or rows j None) ≡ Greater) (sym e) (above total (get_or rows k None) (get_or rows (suc k) None) fact)))

is_less : (o : Ordering) → is_lt o ≡ true → o ≡ Less
is_less Less e = refl
is_less Equal e = cc
is_less Greater e = cc

pub falls_before : IsTotalOrder row_cmp → (rows : Rows) (i : ℕ) (before : Option Value) (order : Ordering) → i < length rows → before ≡ get_or (None ∷ rows) i None
    → order ≡ row_cmp (get_or rows i None) before → is_lt order ≡ true → (k : ℕ) × FallsAt rows k
falls_before total rows i before order short here at less = falls_there total rows i before short here (sym at ∙ is_less order less)

pub row_after : (rows : Rows) (i : ℕ) → get_or (None ∷ rows) (i + 1) None ≡ get_or rows i None
row_after rows i =
    let e : suc i ≡ i + 1 = omega arith in
    subst (λ (k : ℕ). get_or (None ∷ rows) k None ≡ get_or rows i None) e refl

-- one row more
ascends_there : IsTotalOrder row_cmp → (rows : Rows) (i : ℕ) (before : Option Value) → before ≡ get_or (None ∷ rows) i None
    → (row_cmp (get_or rows i None) before ≡ Less → ⊥) → ((k : ℕ) → k + 1 < i → FallsAt rows k → ⊥) → (k : ℕ) → k + 1 < i + 1 → FallsAt rows k → ⊥
ascends_there total rows zero before here least so_far k short falls = absurd (omega arith)
ascends_there total rows (suc i) before here least so_far k short falls = by (cases_lt (k + 1) (suc i))
  where
    by : (k + 1 < suc i) ⊎ (suc i ≤ k + 1) → ⊥
    by (inl earlier) = so_far k earlier falls
    by (inr here_is) =
        let e : k ≡ i = omega arith in
        let f : k + 1 ≡ suc i = omega arith in
        let greater : row_cmp (get_or rows k None) (get_or rows (k + 1) None) ≡ Greater = falls.1 in
        let at_i : row_cmp (get_or rows i None) (get_or rows (suc i) None) ≡ Greater =
        subst (λ (j : ℕ). row_cmp (get_or rows i None) (get_or rows j None) ≡ Greater) f (subst (λ (j : ℕ). row_cmp (get_or rows j None) (get_or rows (k + 1) None) ≡ Greater) e greater) in
        least (subst (λ b. row_cmp (get_or rows (suc i) None) b ≡ Less) (sym here) (below total (get_or rows i None) (get_or rows (suc i) None) at_i))

pub ascends_on : IsTotalOrder row_cmp → (rows : Rows) (i : ℕ) (before : Option Value) (order : Ordering) → before ≡ get_or (None ∷ rows) i None
    → order ≡ row_cmp (get_or rows i None) before → is_lt order ≡ false → ((k : ℕ) → k + 1 < i → FallsAt rows k → ⊥) → (k : ℕ) → k + 1 < i + 1 → FallsAt rows k → ⊥
ascends_on total rows i before order here at least so_far =
    ascends_there total rows i before here (λ less. let e = ap is_lt (at ∙ less) in cc) so_far
