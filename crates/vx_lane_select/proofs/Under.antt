-- Entries that stand for rows, with exceptions laid over them.
use Rattle.std.proofs.Common.{◌≡◌, ℕ, zero, suc, ◌+◌, ◌-◌, ◌<◌, ◌≤◌, inl, inr, List, [], ◌∷◌, length, get_or, slice_index, map, set, refl, sym, ◌∙◌, ap, arith, Option, Some, None, true, false}
use Rattle.std.specs.Option.{option_map}
use Rattle.std.specs.List.{All}
use Rattle.std.proofs.lemmas.Bool.{cases_lt, cases_eq}
use Rattle.std.proofs.lemmas.List.{get_or-set_same, get_or-set_other}
use Rattle.vx_rows.specs.declared.value.Value.{Value}
use Rattle.vx_lanes.specs.declared.layout.Layout.{Layout}
use Rattle.vx_lanes.specs.Layouts.{IsLayout, Excepts, exception_below, exception_of, value_of, value_under, entries, lane_start, row_under, laid, replaced, pairs_of, paired_with}
use Rattle.vx_lanes.proofs.Exceptions.{Belongs}
use Rattle.vx_lanes.proofs.Overlays.{below_none, below_same, below_here, stands, stands_back, stands_at, laid_out, laid_here}
use Rattle.vx_lanes.proofs.Pairs.{pairs_mean}
use Rattle.vx_lane_select.specs.Selected.{AreUnder, IsRising, overlaid_entry, overlaid_taken, overlaid_kept}
use Rattle.vx_lane_select.proofs.Places.{below_first, below_last}

-- ---- an exception that is laid

null_laid : (l : Layout) (k place row : ℕ) → None ≡ laid l k place row None
unfolding laid
null_laid l k place row = refl

at_place : (l : Layout) (g k row : ℕ) (o : Option Value) → IsLayout l → row < l.len → g < entries l → Belongs l g k → laid l k (stands_at l g k) row (row_under l k row o) ≡ row_under l (k + 1) row o
unfolding row_under
at_place l g k row None s h u b = sym (null_laid l k (stands_at l g k) row)
at_place l g k row (Some x) s h u b =
    elim (cases_eq (l.offset + row) (stands_at l g k)) as (λ _. laid l k (stands_at l g k) row (value_under l (exception_below l k row) x) ≡ value_under l (exception_below l (k + 1) row) x) [
      | inl same ↦
          let e : Excepts l row k = stands_back l g k row s h u b same in
          let before : value_under l (exception_below l k row) x ≡ Some x = ap (λ o. value_under l o x) (below_none l k row s h e) in
          sym (laid_here l k (stands_at l g k) row x (value_under l (exception_below l k row) x) before same) ∙ sym (ap (λ o. value_under l o x) (below_here l k row s h e))
      | inr apart ↦
          sym (laid_out l k (stands_at l g k) row (value_under l (exception_below l k row) x) apart)
          ∙ sym (ap (λ o. value_under l o x) (below_same l k row (λ f. apart (stands l g k row s h u b f))))
    ]

pub under_more : (l : Layout) (g k : ℕ) (kept : List ℕ) (bare mid new : List (Option Value)) → IsLayout l → All (λ row. row < l.len) kept → length mid ≡ length kept → g < entries l → Belongs l g k → AreUnder l k kept bare mid → length new ≡ length mid →
    ((j : ℕ) → j < length mid → get_or new j None ≡ laid l k (stands_at l g k) (slice_index kept j) (get_or mid j None)) → AreUnder l (k + 1) kept bare new
under_more l g k kept bare mid new s all m w b u e f = record {
  len = e ∙ u.len;
  each = λ j h. f j (omega (arith, u.len)) ∙ ap (laid l k (stands_at l g k) (slice_index kept j)) (u.each j h) ∙ at_place l g k (slice_index kept j) (get_or bare j None) s (all j 0 (omega (arith, u.len))) w b;
}

-- ---- before the first and after the last

row_none : (l : Layout) (n row : ℕ) (o : Option Value) → exception_below l n row ≡ None → row_under l n row o ≡ o
unfolding row_under
row_none l n row None e = refl
row_none l n row (Some x) e = ap (λ p. value_under l p x) e

pub under_none : (l : Layout) (n : ℕ) (kept : List ℕ) (old : List (Option Value)) → IsLayout l → All (λ row. row < l.len) kept → length old ≡ length kept → n ≡ lane_start l 0 → AreUnder l n kept old old
under_none l n kept old s all m e = record {
  len = refl;
  each = λ j h. sym (row_none l n (slice_index kept j) (get_or old j None) (below_first l n (slice_index kept j) s (all j 0 (omega arith)) e));
}

under_replaced : (l : Layout) (p : Option ℕ) (x : Value) → value_under l p x ≡ replaced (Some x) (option_map (value_of l) p)
under_replaced l None x = refl
under_replaced l (Some k) x = refl

row_means : (l : Layout) (n row : ℕ) (o : Option Value) → exception_below l n row ≡ exception_of l row → IsLayout l → row < l.len → row_under l n row o ≡ replaced o (paired_with (pairs_of l) (l.offset + row))
unfolding row_under
row_means l n row None e s h = refl
row_means l n row (Some x) e s h = ap (λ p. value_under l p x) e ∙ under_replaced l (exception_of l row) x ∙ ap (replaced (Some x)) (sym (pairs_mean l row s h))

entries_same : (l : Layout) (kept : List ℕ) (old new : List (Option Value)) → length new ≡ length old → length old ≡ length kept →
    ((j : ℕ) → j < length old → get_or new j None ≡ overlaid_entry l (Some (slice_index kept j)) (get_or old j None)) → new ≡ overlaid_kept l kept old
entries_same l [] [] [] e m f = refl
entries_same l [] [] (n ∷ ns) e m f = absurd (omega arith)
entries_same l [] (o ∷ os) new e m f = absurd (omega arith)
entries_same l (k ∷ ks) [] new e m f = absurd (omega arith)
entries_same l (k ∷ ks) (o ∷ os) [] e m f = absurd (omega arith)
entries_same l (k ∷ ks) (o ∷ os) (n ∷ ns) e m f = λ i. f 0 (omega arith) i ∷ entries_same l ks os ns (omega arith) (omega arith) (λ j h. f (suc j) (omega arith)) i

pub under_all : (l : Layout) (n : ℕ) (kept : List ℕ) (old new : List (Option Value)) → IsLayout l → All (λ row. row < l.len) kept → length old ≡ length kept → n ≡ lane_start l (entries l) → AreUnder l n kept old new → new ≡ overlaid_kept l kept old
under_all l n kept old new s all m e u =
    entries_same l kept old new u.len m (λ j h.
    let low : slice_index kept j < l.len = all j 0 (omega arith) in
    u.each j h ∙ row_means l n (slice_index kept j) (get_or old j None) (below_last l n (slice_index kept j) s low e) s low)

-- ---- one entry that is written

one_place : (kept : List ℕ) (i j : ℕ) → IsRising kept → i < length kept → j < length kept → slice_index kept i ≡ slice_index kept j → i ≡ j
one_place kept i j up h w e =
    elim (cases_lt i j) as (λ _. i ≡ j) [
      | inl less ↦ absurd (let r = up i j less w in omega arith)
      | inr above ↦ elim (cases_lt j i) as (λ _. i ≡ j) [
        | inl more ↦ absurd (let r = up j i more h in omega arith)
        | inr same ↦ omega arith
      ]
    ]

replaced_laid : (l : Layout) (k place row : ℕ) (o : Option Value) → l.offset + row ≡ place → replaced o (Some (value_of l k)) ≡ laid l k place row o
replaced_laid l k place row None p = null_laid l k place row
replaced_laid l k place row (Some x) p = laid_here l k place row x (Some x) refl p

pub entry_laid : (l : Layout) (k place at : ℕ) (kept : List ℕ) (rows : List (Option Value)) (v : Option Value) → v ≡ replaced (get_or rows at None) (Some (value_of l k)) → IsRising kept → l.offset + slice_index kept at ≡ place → at < length rows → length rows ≡ length kept →
    (j : ℕ) → j < length rows → get_or (set rows at v) j None ≡ laid l k place (slice_index kept j) (get_or rows j None)
entry_laid l k place at kept rows v e up p w m j h =
    elim (cases_eq j at) as (λ _. get_or (set rows at v) j None ≡ laid l k place (slice_index kept j) (get_or rows j None)) [
      | inl same ↦
          ap (λ r. get_or (set rows at v) r None) same ∙ get_or-set_same rows at v None w ∙ e ∙ replaced_laid l k place (slice_index kept at) (get_or rows at None) p
          ∙ ap (λ r. laid l k place (slice_index kept r) (get_or rows r None)) (sym same)
      | inr apart ↦
          get_or-set_other rows at j v None apart
          ∙ laid_out l k place (slice_index kept j) (get_or rows j None) (λ q. let there : slice_index kept j ≡ slice_index kept at = omega arith in apart (one_place kept j at up (omega arith) (omega arith) there))
    ]

pub entries_missed : (l : Layout) (k place : ℕ) (kept : List ℕ) (rows : List (Option Value)) → ((j : ℕ) → j < length kept → l.offset + slice_index kept j ≡ place → ⊥) → length rows ≡ length kept →
    (j : ℕ) → j < length rows → get_or rows j None ≡ laid l k place (slice_index kept j) (get_or rows j None)
entries_missed l k place kept rows none m j h = laid_out l k place (slice_index kept j) (get_or rows j None) (none j (omega arith))

-- ---- numbers that rise, searched

pub not_falling : (xs : List ℕ) → IsRising xs → (i j : ℕ) → i ≤ j → j < length xs → get_or xs i 0 ≤ get_or xs j 0
not_falling xs up i j h w =
    elim (cases_lt i j) as (λ _. get_or xs i 0 ≤ get_or xs j 0) [
      | inl less ↦ let r : get_or xs i 0 < get_or xs j 0 = up i j less w in omega arith
      | inr above ↦ let same : i ≡ j = omega arith in omega (arith, ap (λ n. get_or xs n 0) same)
    ]

pub never_there : (xs : List ℕ) (i x k : ℕ) → ((k : ℕ) → k < i → get_or xs k 0 < x) → ((k : ℕ) → i ≤ k → k < length xs → x < get_or xs k 0) → k < length xs → get_or xs k 0 ≡ x → ⊥
never_there xs i x k low high h e =
    elim (cases_lt k i) as (λ _. ⊥) [
      | inl below ↦ let r : get_or xs k 0 < x = low k below in omega arith
      | inr above ↦ let r : x < get_or xs k 0 = high k above h in omega arith
    ]

-- ---- one entry by the exception of its row

pub entry_found : (l : Layout) (row k : ℕ) (o : Option Value) → IsLayout l → row < l.len → exception_of l row ≡ Some k → replaced o (Some (value_of l k)) ≡ overlaid_entry l (Some row) o
entry_found l row k o s h e = ap (replaced o) (sym (pairs_mean l row s h ∙ ap (option_map (value_of l)) e))

stays : (o : Option Value) → o ≡ replaced o None
stays None = refl
stays (Some x) = refl

pub entry_stays : (l : Layout) (row : ℕ) (o : Option Value) → IsLayout l → row < l.len → exception_of l row ≡ None → o ≡ overlaid_entry l (Some row) o
entry_stays l row o s h e = stays o ∙ ap (replaced o) (sym (pairs_mean l row s h ∙ ap (option_map (value_of l)) e))

pub taken_same : (l : Layout) (taken : List (Option ℕ)) (old new : List (Option Value)) → length new ≡ length old → length old ≡ length taken →
    ((j : ℕ) → j < length old → get_or new j None ≡ overlaid_entry l (get_or taken j None) (get_or old j None)) → new ≡ overlaid_taken l taken old
taken_same l [] [] [] e m f = refl
taken_same l [] [] (n ∷ ns) e m f = absurd (omega arith)
taken_same l [] (o ∷ os) new e m f = absurd (omega arith)
taken_same l (t ∷ ts) [] new e m f = absurd (omega arith)
taken_same l (t ∷ ts) (o ∷ os) [] e m f = absurd (omega arith)
taken_same l (t ∷ ts) (o ∷ os) (n ∷ ns) e m f = λ i. f 0 (omega arith) i ∷ taken_same l ts os ns (omega arith) (omega arith) (λ j h. f (suc j) (omega arith)) i
