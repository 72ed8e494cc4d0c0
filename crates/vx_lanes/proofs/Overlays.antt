-- Rows with exceptions laid over them.
use Rattle.std.proofs.Common.{◌≡◌, ℕ, zero, suc, ◌+◌, ◌-◌, ◌*◌, ◌/◌, ◌%◌, ◌^◌, ◌<◌, ◌≤◌, inl, inr, List, length, get_or, [], ◌∷◌, refl, sym, ◌∙◌, ap, subst, arith, add-one, Option, Some, None, Bool, true, false, cond, set, eqb}
use Rattle.std.specs.Option.{option_or, is_some}
use Rattle.std.proofs.lemmas.Bool.{cases_lt, cases_eq}
use Rattle.std.proofs.lemmas.Nat.{div-mul-add, div_below}
use Rattle.std.proofs.lemmas.List.{get_or-set_same, get_or-set_other}
use Rattle.std.proofs.lemmas.Bool.Decides.{nat_tests}
use Rattle.vx_rows.specs.declared.value.Value.{Value}
use Rattle.vx_lanes.specs.declared.layout.Layout.{Layout}
use Rattle.vx_lanes.specs.Layouts.{IsLayout, Excepts, excepts, first_below, exception_below, exceptions, value_of, value_under, chunks_of, chunk_of, place_of, entries, lane_start, index_of, row_under, rows_under, overlaid, overlaid_below, one_if_some, covered, laid}
use Rattle.vx_lanes.proofs.Entries.{starts_rise, index_low, lanes_some, entry_within}
use Rattle.vx_lanes.proofs.Columns.{under_length, under_at}
use Rattle.vx_lanes.proofs.Exceptions.{first_none, excepts_true, excepts_false, Belongs, entry_of, entry_of_within, holds, one_exception, chunk_within}

-- one exception more
pub below_more : (l : Layout) (k row : ℕ) → exception_below l (k + 1) row ≡ option_or (exception_below l k row) (cond (excepts l row k) (Some k) None)
unfolding first_below
below_more l k row = ap (first_below (excepts l row)) (add-one k)

pub below_same : (l : Layout) (k row : ℕ) → (Excepts l row k → ⊥) → exception_below l (k + 1) row ≡ exception_below l k row
below_same l k row never = below_more l k row ∙ ap (λ b. option_or (exception_below l k row) (cond b (Some k) None)) (excepts_false l row k never) ∙ or_none (exception_below l k row)
  where
    or_none : (o : Option ℕ) → option_or o None ≡ o
    or_none None = refl
    or_none (Some x) = refl

pub below_none : (l : Layout) (k row : ℕ) → IsLayout l → row < l.len → Excepts l row k → exception_below l k row ≡ None
below_none l k row s h e = first_none (excepts l row) k (λ m w. excepts_false l row m (λ f. absurd (let same : m ≡ k = one_exception l row m k s h f e in omega arith)))

pub below_here : (l : Layout) (k row : ℕ) → IsLayout l → row < l.len → Excepts l row k → exception_below l (k + 1) row ≡ Some k
below_here l k row s h e = below_more l k row ∙ ap (λ o. option_or o (cond (excepts l row k) (Some k) None)) (below_none l k row s h e) ∙ ap (λ b. cond b (Some k) None) (excepts_true l row k e)

-- entries lie apart
pub one_entry : (l : Layout) (g h k : ℕ) → IsLayout l → g < entries l → h < entries l → Belongs l g k → Belongs l h k → g ≡ h
one_entry l g h k s u v a b =
    elim (cases_lt g h) as (λ _. g ≡ h) [
      | inl less ↦ absurd (omega (arith, a.below, b.from, starts_rise l (g + 1) h s (omega arith) (omega arith)))
      | inr above ↦ elim (cases_lt h g) as (λ _. g ≡ h) [
        | inl more ↦ absurd (omega (arith, b.below, a.from, starts_rise l (h + 1) g s (omega arith) (omega arith)))
        | inr same ↦ omega arith
      ]
    ]

-- exception k of entry g stands at one place of all chunks
abbrev pub stands_at : Layout → ℕ → ℕ → ℕ
stands_at l g k = g / l.n_lanes * 1024 + index_of l k

pub stands : (l : Layout) (g k row : ℕ) → IsLayout l → row < l.len → g < entries l → Belongs l g k → Excepts l row k → l.offset + row ≡ stands_at l g k
stands l g k row s h u b e =
    let same : g ≡ entry_of l row = one_entry l g (entry_of l row) k s u (entry_of_within l row s h) b (holds l row k s h e) in
    let chunk : entry_of l row / l.n_lanes ≡ chunk_of l row = div-mul-add (chunk_of l row) l.n_lanes (place_of l row % l.n_lanes) (omega (arith, lanes_some l s)) in
    let there : g / l.n_lanes ≡ chunk_of l row = ap (λ n. n / l.n_lanes) same ∙ chunk in
    omega (arith, e.place)

pub stands_back : (l : Layout) (g k row : ℕ) → IsLayout l → row < l.len → g < entries l → Belongs l g k → l.offset + row ≡ stands_at l g k → Excepts l row k
stands_back l g k row s h u b e =
    let low : index_of l k < 1024 = index_low l g k s u b.from b.below in
    let chunk : chunk_of l row ≡ g / l.n_lanes = omega arith in
    let place : place_of l row ≡ index_of l k = omega arith in
    let n : ℕ = l.n_lanes in
    let some : 0 < n = lanes_some l s in
    let wide : (chunk_of l row + 1) * n ≡ chunk_of l row * n + n = omega arith in
    let inside : (chunk_of l row + 1) * n ≤ entries l = omega (arith, entry_within l (chunk_of l row) (n - 1) s (chunk_within l row h) (omega arith)) in
    let first : chunk_of l row * n ≤ g = omega (arith, ap (λ c. c * n) chunk) in
    let last : g + 1 ≤ (chunk_of l row + 1) * n = omega (arith, ap (λ c. c * n) chunk) in
    record {
      from = omega (arith, b.from, starts_rise l (chunk_of l row * n) g s first (omega arith));
      below = omega (arith, b.below, starts_rise l (g + 1) ((chunk_of l row + 1) * n) s last inside);
      place = sym place;
    }

-- rows under the first n exceptions, row by row
record Under (l : Layout) (n : ℕ) (old new : List (Option Value)) : Type 0 where
  pub len : length new ≡ length old
  pub each : (row : ℕ) → row < length old → get_or new row None ≡ row_under l n row (get_or old row None)

-- what is laid elsewhere leaves a row
pub laid_out : (l : Layout) (k place row : ℕ) (o : Option Value) → (l.offset + row ≡ place → ⊥) → o ≡ laid l k place row o
unfolding laid
laid_out l k place row None never = refl
laid_out l k place row (Some x) never =
    let no' : eqb (l.offset + row) place ≡ false = by_cases (eqb (l.offset + row) place) refl in
    sym (ap (λ b. cond b (value_of l k) (Some x)) no')
  where
    by_cases : (b : Bool) → eqb (l.offset + row) place ≡ b → b ≡ false
    by_cases true e = absurd (never (grind (arith, nat_tests)))
    by_cases false e = refl

-- what is laid on a value takes its place
pub laid_here : (l : Layout) (k place row : ℕ) (x : Value) (o : Option Value) → o ≡ Some x → l.offset + row ≡ place → value_of l k ≡ laid l k place row o
unfolding laid
laid_here l k place row x o e p =
    let test : eqb (l.offset + row) place ≡ true = grind (arith, nat_tests) in
    sym (ap (λ b. cond b (value_of l k) (Some x)) test) ∙ ap (laid l k place row) (sym e)

null_laid : (l : Layout) (k place row : ℕ) → None ≡ laid l k place row None
unfolding laid
null_laid l k place row = refl

at_place : (l : Layout) (g k row : ℕ) (o : Option Value) → IsLayout l → row < l.len → g < entries l → Belongs l g k → laid l k (stands_at l g k) row (row_under l k row o) ≡ row_under l (k + 1) row o
unfolding row_under
at_place l g k row None s h u b = sym (null_laid l k (stands_at l g k) row)
at_place l g k row (Some x) s h u b =
    elim (cases_eq (l.offset + row) (stands_at l g k)) as (λ _. laid l k (stands_at l g k) row (value_under l (exception_below l k row) x) ≡ value_under l (exception_below l (k + 1) row) x) [
      | inl same ↦
          let e : Excepts l row k = stands_back l g k row s h u b same in
          let before : value_under l (exception_below l k row) x ≡ Some x = ap (λ o. value_under l o x) (below_none l k row s h e) in
          sym (laid_here l k (stands_at l g k) row x (value_under l (exception_below l k row) x) before same) ∙ sym (ap (λ o. value_under l o x) (below_here l k row s h e))
      | inr apart ↦
          sym (laid_out l k (stands_at l g k) row (value_under l (exception_below l k row) x) apart)
          ∙ sym (ap (λ o. value_under l o x) (below_same l k row (λ f. apart (stands l g k row s h u b f))))
    ]

under_more : (l : Layout) (g k : ℕ) (old mid new : List (Option Value)) → IsLayout l → length old ≡ l.len → g < entries l → Belongs l g k → Under l k old mid → length new ≡ length mid →
    ((row : ℕ) → row < length mid → get_or new row None ≡ laid l k (stands_at l g k) row (get_or mid row None)) → Under l (k + 1) old new
under_more l g k old mid new s m u b r e f = record {
  len = e ∙ r.len;
  each = λ row h. f row (omega (arith, r.len)) ∙ ap (laid l k (stands_at l g k) row) (r.each row h) ∙ at_place l g k row (get_or old row None) s (omega arith) u b;
}

row_none : (l : Layout) (n row : ℕ) (o : Option Value) → exception_below l n row ≡ None → row_under l n row o ≡ o
unfolding row_under
row_none l n row None e = refl
row_none l n row (Some x) e = ap (λ p. value_under l p x) e

first_rises : (l : Layout) (row : ℕ) → IsLayout l → row < l.len → lane_start l 0 ≤ lane_start l (entry_of l row)
first_rises l row s h = starts_rise l 0 (entry_of l row) s (omega arith) (omega (arith, entry_of_within l row s h))

under_none : (l : Layout) (n : ℕ) (old : List (Option Value)) → IsLayout l → length old ≡ l.len → n ≡ lane_start l 0 → Under l n old old
under_none l n old s m e = record {
  len = refl;
  each = λ row h. sym (row_none l n row (get_or old row None) (first_none (excepts l row) n (λ k w. excepts_false l row k (λ f. absurd (let b = holds l row k s (omega arith) f in omega (arith, b.from, first_rises l row s (omega arith)))))));
}

-- past the last entry there are no more exceptions
below_last : (l : Layout) (row d : ℕ) → IsLayout l → row < l.len → exception_below l (lane_start l (entries l) + d) row ≡ exception_below l (lane_start l (entries l)) row
below_last l row zero s h =
    let same : lane_start l (entries l) + 0 ≡ lane_start l (entries l) = omega arith in
    ap (λ n. exception_below l n row) same
below_last l row (suc d) s h =
    let next : lane_start l (entries l) + suc d ≡ lane_start l (entries l) + d + 1 = omega arith in
    ap (λ n. exception_below l n row) next
    ∙ below_same l (lane_start l (entries l) + d) row (λ f. let b = holds l row (lane_start l (entries l) + d) s h f in omega (arith, b.below, starts_rise l (entry_of l row + 1) (entries l) s (omega (arith, entry_of_within l row s h)) (omega arith)))
    ∙ below_last l row d s h

rows_same : (l : Layout) (n from : ℕ) (old new : List (Option Value)) → length new ≡ length old → ((row : ℕ) → row < length old → get_or new row None ≡ row_under l n (from + row) (get_or old row None)) → new ≡ rows_under l n from old
unfolding rows_under
rows_same l n from [] [] e f = refl
rows_same l n from [] (y ∷ ys) e f = absurd (omega arith)
rows_same l n from (x ∷ xs) [] e f = absurd (omega arith)
rows_same l n from (x ∷ xs) (y ∷ ys) e f =
    let start : from + 0 ≡ from = omega arith in
    let head : y ≡ row_under l n from x = f 0 (omega arith) ∙ ap (λ r. row_under l n r x) start in
    let tail : ys ≡ rows_under l n (from + 1) xs = rows_same l n (from + 1) xs ys (omega arith) (λ row h. f (suc row) (omega arith) ∙ ap (λ r. row_under l n r (get_or xs row None)) (omega arith)) in
    ap (λ z. z ∷ ys) head ∙ ap (λ zs. row_under l n from x ∷ zs) tail

-- that row by row, and as a list
as_rows : (l : Layout) (n : ℕ) (old new : List (Option Value)) → Under l n old new → new ≡ overlaid_below l n old
as_rows l n old new r = rows_same l n 0 old new r.len (λ row h. r.each row h ∙ ap (λ p. row_under l n p (get_or old row None)) (omega arith))

as_each : (l : Layout) (n : ℕ) (old new : List (Option Value)) → new ≡ overlaid_below l n old → Under l n old new
as_each l n old new e = record {
  len = ap length e ∙ under_length l n 0 old;
  each = λ row h. ap (λ rs. get_or rs row None) e ∙ under_at l n 0 old row ∙ ap (λ p. row_under l n p (get_or old row None)) (omega arith);
}

-- before the first entry no exception is laid, each entry lays its own, and past the last all are
pub laid_before : (l : Layout) (n : ℕ) (old : List (Option Value)) → IsLayout l → length old ≡ l.len → n ≡ lane_start l 0 → old ≡ overlaid_below l n old
laid_before l n old s m e = as_rows l n old old (under_none l n old s m e)

pub laid_more : (l : Layout) (g k : ℕ) (old mid new : List (Option Value)) → IsLayout l → length mid ≡ l.len → g < entries l → Belongs l g k → mid ≡ overlaid_below l k old → length new ≡ length mid →
    ((row : ℕ) → row < length mid → get_or new row None ≡ laid l k (stands_at l g k) row (get_or mid row None)) → new ≡ overlaid_below l (k + 1) old
laid_more l g k old mid new s m u b r e f =
    let before : Under l k old mid = as_each l k old mid r in
    as_rows l (k + 1) old new (under_more l g k old mid new s (omega (arith, before.len)) u b before e f)

row_at : (l : Layout) (n m row : ℕ) (o : Option Value) → exception_below l n row ≡ exception_below l m row → row_under l n row o ≡ row_under l m row o
unfolding row_under
row_at l n m row None e = refl
row_at l n m row (Some x) e = ap (λ p. value_under l p x) e

under_all : (l : Layout) (n : ℕ) (old new : List (Option Value)) → IsLayout l → length old ≡ l.len → n ≡ lane_start l (entries l) → Under l n old new → new ≡ overlaid l old
under_all l n old new s m e r =
    rows_same l (exceptions l) 0 old new r.len (λ row h.
    r.each row h
    ∙ row_at l n (exceptions l) row (get_or old row None) (ap (λ k. exception_below l k row) e ∙ sym (below_last l row (exceptions l - lane_start l (entries l)) s (omega arith)) ∙ ap (λ k. exception_below l k row) (omega (arith, s.inside)))
    ∙ ap (λ p. row_under l (exceptions l) p (get_or old row None)) (omega arith))

pub laid_all : (l : Layout) (n : ℕ) (old new : List (Option Value)) → IsLayout l → length old ≡ l.len → n ≡ lane_start l (entries l) → new ≡ overlaid_below l n old → new ≡ overlaid l old
laid_all l n old new s m e r = under_all l n old new s m e (as_each l n old new r)

-- no more rows are covered than there are, and one more exception covers no fewer
pub covered-le : (l : Layout) (k n : ℕ) → covered l k n ≤ n
unfolding covered
covered-le l k zero = omega arith
covered-le l k (suc n) = omega (arith, covered-le l k n, small (exception_below l k n))
  where
    small : (o : Option ℕ) → one_if_some o ≤ 1
    small None = omega arith
    small (Some x) = omega arith

one_up : (l : Layout) (k n : ℕ) → one_if_some (exception_below l k n) ≤ one_if_some (exception_below l (k + 1) n)
one_up l k n = up (exception_below l k n) refl
  where
    up : (o : Option ℕ) → exception_below l k n ≡ o → one_if_some (exception_below l k n) ≤ one_if_some (exception_below l (k + 1) n)
    up None e = omega (arith, ap one_if_some e)
    up (Some x) e =
        let after : exception_below l (k + 1) n ≡ Some x = below_more l k n ∙ ap (λ p. option_or p (cond (excepts l n k) (Some k) None)) e in
        omega (arith, ap one_if_some e, ap one_if_some after)

pub covered-rise : (l : Layout) (k n : ℕ) → covered l k n ≤ covered l (k + 1) n
unfolding covered
covered-rise l k zero = omega arith
covered-rise l k (suc n) = omega (arith, covered-rise l k n, one_up l k n)

pub covered-more : (l : Layout) (k n row : ℕ) → IsLayout l → row < n → row < l.len → Excepts l row k → covered l k n + 1 ≤ covered l (k + 1) n
unfolding covered
covered-more l k zero row s h w e = absurd (omega arith)
covered-more l k (suc n) row s h w e =
    elim (cases_lt row n) as (λ _. covered l k n + one_if_some (exception_below l k n) + 1 ≤ covered l (k + 1) n + one_if_some (exception_below l (k + 1) n)) [
      | inl below ↦ omega (arith, covered-more l k n row s below w e, one_up l k n)
      | inr above ↦
          let same : row ≡ n = omega arith in
          let f : Excepts l n k = subst (λ (r : ℕ). Excepts l r k) same e in
          omega (arith, covered-rise l k n, ap one_if_some (below_none l k n s (omega arith) f), ap one_if_some (below_here l k n s (omega arith) f))
    ]

-- what a write leaves
pub laid_set : (l : Layout) (k place at : ℕ) (rows : List (Option Value)) (v : Option Value) → v ≡ value_of l k → l.offset + at ≡ place → at < length rows → is_some (get_or rows at None) ≡ true →
    (row : ℕ) → get_or (set rows at v) row None ≡ laid l k place row (get_or rows row None)
laid_set l k place at rows v e h w o row =
    elim (cases_eq row at) as (λ _. get_or (set rows at v) row None ≡ laid l k place row (get_or rows row None)) [
      | inl same ↦
          ap (λ r. get_or (set rows at v) r None) same ∙ get_or-set_same rows at v None w ∙ e
          ∙ some_here (get_or rows row None) (ap (λ r. is_some (get_or rows r None)) same ∙ o) (omega arith)
      | inr apart ↦ get_or-set_other rows at row v None apart ∙ laid_out l k place row (get_or rows row None) (λ p. apart (omega arith))
    ]
  where
    some_here : (p : Option Value) → is_some p ≡ true → l.offset + row ≡ place → value_of l k ≡ laid l k place row p
    some_here None q r = absurd cc
    some_here (Some x) q r = laid_here l k place row x (Some x) refl r

laid_none : (l : Layout) (k place row : ℕ) (p : Option Value) → is_some p ≡ false → p ≡ laid l k place row p
unfolding laid
laid_none l k place row None e = refl
laid_none l k place row (Some y) e = absurd cc

pub laid_null : (l : Layout) (k place at : ℕ) (rows : List (Option Value)) → l.offset + at ≡ place → is_some (get_or rows at None) ≡ false → (row : ℕ) → get_or rows row None ≡ laid l k place row (get_or rows row None)
laid_null l k place at rows h o row =
    elim (cases_eq row at) as (λ _. get_or rows row None ≡ laid l k place row (get_or rows row None)) [
      | inl same ↦ laid_none l k place row (get_or rows row None) (ap (λ r. is_some (get_or rows r None)) same ∙ o)
      | inr apart ↦ laid_out l k place row (get_or rows row None) (λ p. apart (omega arith))
    ]

-- places fit
pub place_fits : (l : Layout) (g : ℕ) → IsLayout l → g < entries l → g / l.n_lanes * 1024 + 1023 < 2 ^ 64
place_fits l g s u =
    let chunk : g / l.n_lanes < chunks_of (l.offset + l.len) = div_below g l.n_lanes (chunks_of (l.offset + l.len)) (lanes_some l s) (omega (arith, s.offsets)) in
    omega (arith, s.fits)

-- one more exception costs no more than it covers
pub cost_more : (l : Layout) (g k rows before after : ℕ) → IsLayout l → rows ≡ l.len → g < entries l → Belongs l g k → before ≤ after → (l.offset ≤ stands_at l g k → after ≤ before + 1) → (stands_at l g k < l.offset → after ≡ before) → (l.offset + l.len ≤ stands_at l g k → after ≡ before) →
    after + covered l k rows ≤ before + covered l (k + 1) rows
cost_more l g k rows before after s m u b kept inside below above =
    elim (cases_lt (stands_at l g k) l.offset) as (λ _. after + covered l k rows ≤ before + covered l (k + 1) rows) [
      | inl low ↦ omega (arith, below low, covered-rise l k rows)
      | inr high ↦ elim (cases_lt (stands_at l g k) (l.offset + l.len)) as (λ _. after + covered l k rows ≤ before + covered l (k + 1) rows) [
        | inl in' ↦
            let row : ℕ = stands_at l g k - l.offset in
            let there : l.offset + row ≡ stands_at l g k = omega arith in
            let small : row < l.len = omega arith in
            omega (arith, inside high, covered-more l k rows row s (omega arith) small (stands_back l g k row s small u b there))
        | inr out ↦ omega (arith, above out, covered-rise l k rows)
      ]
    ]
