-- What stands before a row, as galloping finds it, and what is kept of it.
use Rattle.std.proofs.Common.{◌≡◌, ℕ, ℤ, pos, zero, suc, ◌+◌, ◌-◌, ◌*◌, ◌≤◌, ◌<◌, ◌≢◌, inl, inr, Bool, true, false, cond, List, [], ◌∷◌, ◌++◌, length, get_or, take, map, refl, sym, ◌∙◌, ap, subst, arith}
use Rattle.std.specs.Prelude.{Option}
use Rattle.std.specs.List.{filter}
use Rattle.std.proofs.Math.Nat.{mul-le-mul_right}
use Rattle.std.specs.List.Sorted.{IsStrictlyIncreasing, IsNonDecreasingBy}
use Rattle.std.specs.declared.cmp.Ordering.TheVariants.{Less}
use Rattle.std.specs.Ordering.{nat_cmp, int_cmp, is_lt, ordering_index}
use Rattle.std.proofs.lemmas.Bool.{cases_lt, cases_eq}
use Rattle.std.proofs.lemmas.Bool.Decides.{nat_tests}
use Rattle.std.proofs.lemmas.List.{get_or-map, length-map, take_all, length-take-le}
use Rattle.std.proofs.lemmas.List.Sums.{sum_by-take-drop, sum_by-cons, count_by-le-length, count_by_more_yes, count_by_more_no}
use Rattle.vx_rows.specs.Fits.{rows_fit}
use Rattle.vx_base.specs.Column.{Flat}
use Rattle.vx_base.specs.Numbers.{numbers_of, row_int, magnitude, is_unsigned}
use Rattle.vx_base.specs.Checks.{count_below}
use Rattle.vx_masks.specs.Bits.{count_true, places_from, places_of}
use Rattle.vx_search.specs.Answers.{standing}
use Rattle.vx_search.specs.Numbers.{or_zero}
use Rattle.vx_search.specs.Places.{search_bound}
use Rattle.vx_search.specs.Halving.{IsFirstFrom, log_up}
use Rattle.vx_search.proofs.Powers.{log_le, log_doubled, bound_some}
use Rattle.vx_search.proofs.Sorted.{numbers_searchable}
use Rattle.vx_patches.specs.Places.{Index, IsIndex, indices_of, rows_of}
use Rattle.vx_patches.specs.Search.{IsBetween}
use Rattle.vx_patches.proofs.Counts.{Rising, Rising-from_increasing, count_is, count_yes, count_no, count-le-length, below_count, above_count, above_first, below_last}
use Rattle.vx_patches.proofs.Searches.{first_below_seen, first_above_seen, increasing_is_monotone}
use Rattle.vx_patches.proofs.Columns.{rows_number, rows_rise}
use Rattle.vx_patch_select.specs.declared.plan.Kept.{Kept}
use Rattle.vx_patch_select.specs.Selected.{bit_at, rank, kept_pairs}
use Rattle.vx_patch_select.specs.Plans.{IsKeptTo}
use Rattle.vx_patch_select.proofs.Keeping.{kept_yes, kept_no}

-- ---- one row more

row_there : (row : ℕ) (rows : List ℕ) → Rising rows → count_below row rows < length rows → get_or rows (count_below row rows) 0 ≡ row → count_below (row + 1) rows ≡ count_below row rows + 1
row_there row rows r h e =
    let c = count_below row rows in
    let here : get_or rows c 0 < row + 1 = omega arith in
    let same : c + 1 - 1 ≡ c = omega arith in
    count_is (row + 1) rows r (c + 1) (omega arith) (λ some. omega (arith, ap (λ n. get_or rows n 0) same)) (λ l. omega (arith, r c (c + 1) (omega arith) l))

row_not_there : (row : ℕ) (rows : List ℕ) → Rising rows → (count_below row rows < length rows → get_or rows (count_below row rows) 0 ≢ row) → count_below (row + 1) rows ≡ count_below row rows
row_not_there row rows r h =
    let c = count_below row rows in
    count_is (row + 1) rows r c (count-le-length row rows) (λ some. omega (arith, below_count row rows r (c - 1) (omega arith)))
    (λ l. let apart = h l in omega (arith, above_count row rows r c (omega arith) l))

-- the exceptions before a row are kept; so are those before the next one, where the row has one and its bit is true
pub gallop_yes : (bits : List Bool) (rows : List ℕ) (row : ℕ) (old new : Kept) → Rising rows → IsKeptTo bits rows (count_below row rows) old → bit_at bits row ≡ true →
    count_below row rows < length rows → get_or rows (count_below row rows) 0 ≡ row →
    new.places ≡ old.places ++ count_below row rows ∷ [] → new.indices ≡ old.indices ++ rank bits row ∷ [] → IsKeptTo bits rows (count_below (row + 1) rows) new
gallop_yes bits rows row old new r k b h e p q =
    let more : IsKeptTo bits rows (count_below row rows + 1) new = kept_yes bits rows (count_below row rows) row old new k h (sym e) b p q in
    subst (λ (n : ℕ). IsKeptTo bits rows n new) (sym (row_there row rows r h e)) more

-- where the row has none nothing more is kept
pub gallop_no : (bits : List Bool) (rows : List ℕ) (row : ℕ) (kept : Kept) → Rising rows → IsKeptTo bits rows (count_below row rows) kept →
    (count_below row rows < length rows → get_or rows (count_below row rows) 0 ≢ row) → IsKeptTo bits rows (count_below (row + 1) rows) kept
gallop_no bits rows row kept r k h = subst (λ (n : ℕ). IsKeptTo bits rows n kept) (sym (row_not_there row rows r h)) k

-- and so where the bit is false
pub gallop_unset : (bits : List Bool) (rows : List ℕ) (row : ℕ) (kept : Kept) → Rising rows → IsKeptTo bits rows (count_below row rows) kept → bit_at bits row ≡ false → IsKeptTo bits rows (count_below (row + 1) rows) kept
gallop_unset bits rows row kept r k b =
    let c = count_below row rows in
    let Goal : Type 0 = IsKeptTo bits rows (count_below (row + 1) rows) kept in
    elim (cases_lt c (length rows)) as (λ _. Goal) [
      | inl inside ↦ elim (cases_eq (get_or rows c 0) row) as (λ _. Goal) [
        | inl same ↦ subst (λ (n : ℕ). IsKeptTo bits rows n kept) (sym (row_there row rows r inside same)) (kept_no bits rows c row kept k inside (sym same) b)
        | inr apart ↦ gallop_no bits rows row kept r k (λ _. apart)
      ]
      | inr past ↦ gallop_no bits rows row kept r k (λ l. absurd (omega arith))
    ]

pub rank_yes : (bits : List Bool) (row : ℕ) → row < length bits → bit_at bits row ≡ true → rank bits (row + 1) ≡ rank bits row + 1
rank_yes bits row h b = count_by_more_yes (λ (t : Bool). t) bits row false h b

pub rank_no : (bits : List Bool) (row : ℕ) → row < length bits → bit_at bits row ≡ false → rank bits (row + 1) ≡ rank bits row
rank_no bits row h b = count_by_more_no (λ (t : Bool). t) bits row false h b

pub rank_all : (bits : List Bool) (n : ℕ) → length bits ≤ n → rank bits n ≡ count_true bits
rank_all bits n h = ap count_true (take_all n bits h)

pub rank_within : (bits : List Bool) (n : ℕ) → n ≤ length bits → rank bits n ≤ n
rank_within bits n h = omega (arith, count_by-le-length (λ (b : Bool). b) (take n bits), length-take-le n bits h)

pub rank_most : (bits : List Bool) (n : ℕ) → rank bits n ≤ count_true bits
rank_most bits n = omega (arith, sum_by-take-drop (λ (b : Bool). cond b 1 0) bits n)

-- all exceptions stand before the end
pub all_before : (index : Index) → IsIndex index → count_below index.len (rows_of index) ≡ length (rows_of index)
all_before index i =
    let rows = rows_of index in
    let m = length rows in
    let last : get_or rows (m - 1) 0 ≡ get_or (indices_of index) (m - 1) 0 - index.offset =
    get_or-map (λ (n : ℕ). n - index.offset) (indices_of index) (m - 1) 0 0 (omega (arith, rows_number index, i.some)) in
    count_is index.len rows (rows_rise index i) m (omega arith)
    (λ some. omega (arith, last, below_last (index.offset + index.len) (indices_of index) i.rising i.below (m - 1) (omega (arith, rows_number index)), above_first index.offset (indices_of index) i.rising i.above (m - 1) (omega (arith, rows_number index))))
    (λ l. absurd (omega arith))

pub none_before : (rows : List ℕ) → count_below 0 rows ≡ 0
none_before [] = refl
none_before (x ∷ xs) = count_no 0 x xs (omega arith) ∙ none_before xs

-- where the gallop from row to row stands
pub record StepsOn (old cost : ℕ) (bits : List Bool) (rows : List ℕ) (row : ℕ) (kept_now : Kept) (start_now rank_now steps_now : ℕ) : Type 0 where
  pub kept : IsKeptTo bits rows (count_below row rows) kept_now
  pub start : start_now ≤ count_below row rows
  pub rank : rank_now ≡ rank bits row
  pub spent : steps_now ≤ old + rank_now * cost
  pub monotone : old ≤ steps_now

-- ---- galloping through a column

pub gallop_cost : (m start spent : ℕ) → 0 < m → spent ≤ (2 * log_up (m - start + 1) + 1) * 1 → spent ≤ search_bound m + 1
gallop_cost m start spent some h =
    omega (arith, log_le (m - start + 1) (m + 1) (omega arith), log_doubled (m + 1) m (omega arith), bound_some m some)

-- the same, for a reader of the column
pub gallop_cost_seen : (column reader : Flat) → column ≡ reader → (start old new : ℕ) → 0 < length (numbers_of column.rows) →
    new ≤ old + (2 * log_up (length (map row_int reader.rows) - start + 1) + 1) * 1 → new ≤ old + (search_bound (length (numbers_of column.rows)) + 1)
gallop_cost_seen column reader same start old new some h =
    let long : length (map row_int reader.rows) ≡ length (numbers_of column.rows) =
    length-map reader.rows row_int ∙ sym (ap (λ (c : Flat). length c.rows) same) ∙ sym (length-map column.rows (λ r. magnitude (row_int r))) in
    let most = subst (λ (n : ℕ). new ≤ old + (2 * log_up (n - start + 1) + 1) * 1) long h in
    let bound = gallop_cost (length (numbers_of column.rows)) start (new - old) some (omega arith) in
    omega arith

-- one search more of those that are counted
pub spent_most : (old before now i n cost : ℕ) → before ≤ old + i * cost → now ≤ before + cost → i + 1 ≤ n → now ≤ old + n * cost
spent_most old before now i n cost h k l = omega (arith, mul-le-mul_right cost l)

pub one_more : (old before now i cost : ℕ) → before ≤ old + i * cost → now ≤ before + cost → now ≤ old + (i + 1) * cost
one_more old before now i cost h k = omega arith

-- where no bit is true nothing is kept
bit_none : (bits : List Bool) → count_true bits ≡ 0 → (row : ℕ) → bit_at bits row ≡ false
bit_none [] h row = refl
bit_none (true ∷ bits) h row = absurd (omega (arith, sum_by-cons (λ (b : Bool). cond b 1 0) true bits))
bit_none (false ∷ bits) h zero = refl
bit_none (false ∷ bits) h (suc row) = bit_none bits (omega (arith, sum_by-cons (λ (b : Bool). cond b 1 0) false bits)) row

pub none_kept : {A : Type 0} (bits : List Bool) → count_true bits ≡ 0 → (pairs : List (ℕ × A)) → kept_pairs bits pairs ≡ []
none_kept bits h [] = refl
none_kept {A} bits h (p ∷ ps) =
    ap (λ (t : Bool). map (λ (q : ℕ × A). (rank bits q.0, q.1)) (cond t (p ∷ filter (λ (q : ℕ × A). bit_at bits q.0) ps) (filter (λ (q : ℕ × A). bit_at bits q.0) ps))) (bit_none bits h p.0)
    ∙ none_kept bits h ps

module _ (column reader : Flat) (same : column ≡ reader) (v : ℕ) where
  abbrev Stops : Flat → ℕ → ℕ → ℕ → Type 0
  Stops c start end i = IsFirstFrom (standing (λ (x : Option ℤ) (w : ℕ). int_cmp (or_zero x) (pos w)) (map row_int c.rows) v) start end i

  -- what the gallop finds is how many are below
  pub gallop_counts : (start place : ℕ) → rows_fit column.dtype column.rows ≡ true → is_unsigned column.dtype ≡ true → IsStrictlyIncreasing (numbers_of column.rows) →
      start ≤ count_below v (numbers_of column.rows) → Stops reader start (length (map row_int reader.rows)) place → place ≡ count_below v (numbers_of column.rows)
  gallop_counts start place fits unsigned r known f =
      let xs = numbers_of column.rows in
      let rising : Rising xs = Rising-from_increasing xs r in
      let long : length (map row_int reader.rows) ≡ length xs =
      length-map reader.rows row_int ∙ sym (ap (λ (c : Flat). length c.rows) same) ∙ sym (length-map column.rows (λ r. magnitude (row_int r))) in
      let end = length (map row_int reader.rows) in
      let between : IsBetween xs v start end = record {
        ordered = omega (arith, count-le-length v xs);
        inside = omega arith;
        low = λ some. below_count v xs rising (start - 1) (omega arith);
        high = λ l. absurd (omega arith);
      } in
      sym (count_is v xs rising place (omega (arith, f.1)) (first_below_seen column reader same v start end place fits unsigned between f) (first_above_seen column reader same v start end place fits unsigned between f))

-- ---- galloping through places

less_below : (a b : ℕ) → is_lt (nat_cmp a b) ≡ true → a < b
less_below a b e = grind (arith, nat_tests)

less_above : (a b : ℕ) → is_lt (nat_cmp a b) ≡ false → b ≤ a
less_above a b e = grind (arith, nat_tests)

stands : (xs : List ℕ) (v k : ℕ) → k < length xs → get_or (standing nat_cmp xs v) k Less ≡ nat_cmp (get_or xs k 0) v
stands xs v k h = get_or-map (λ (x : ℕ). nat_cmp x v) xs k 0 Less h

pub gallop_places : (xs seen : List ℕ) → seen ≡ xs → (v start place : ℕ) → IsStrictlyIncreasing xs → start ≤ count_below v xs → IsFirstFrom (standing nat_cmp seen v) start (length seen) place → place ≡ count_below v xs
gallop_places xs seen e v start place r known g =
    let rising : Rising xs = Rising-from_increasing xs r in
    let f = subst (λ (ys : List ℕ). IsFirstFrom (standing nat_cmp ys v) start (length ys) place) e g in
    sym (count_is v xs rising place f.1
    (λ some. elim (cases_lt start place) as (λ _. get_or xs (place - 1) 0 < v) [
      | inl more ↦ less_below (get_or xs (place - 1) 0) v (ap is_lt (sym (stands xs v (place - 1) (omega (arith, f.1)))) ∙ f.2 (place - 1) (omega arith) (omega arith))
      | inr less ↦ below_count v xs rising (place - 1) (omega (arith, f.0))
    ])
    (λ l. less_above (get_or xs place 0) v (ap is_lt (sym (stands xs v place l)) ∙ f.3 l)))

pub places_sorted : (xs seen : List ℕ) → seen ≡ xs → (v : ℕ) → IsStrictlyIncreasing xs → IsNonDecreasingBy (λ x. ordering_index (nat_cmp x v)) seen
places_sorted xs seen e v r = subst (λ (ys : List ℕ). IsNonDecreasingBy (λ x. ordering_index (nat_cmp x v)) ys) (sym e) (numbers_searchable xs v (increasing_is_monotone xs r))

-- ---- the places of true bits

places_low : (v at : ℕ) (bits : List Bool) → v ≤ at → count_below v (places_from at bits) ≡ 0
places_low v at [] h = refl
places_low v at (true ∷ bits) h = count_no v at (places_from (at + 1) bits) h ∙ places_low v (at + 1) bits (omega arith)
places_low v at (false ∷ bits) h = places_low v (at + 1) bits (omega arith)

places_before : (at row : ℕ) (bits : List Bool) → count_below (at + row) (places_from at bits) ≡ count_true (take row bits)
places_before at zero bits = places_low (at + 0) at bits (omega arith)
places_before at (suc row) [] = refl
places_before at (suc row) (true ∷ bits) =
    let e : at + suc row ≡ at + 1 + row = omega arith in
    count_yes (at + suc row) at (places_from (at + 1) bits) (omega arith) ∙ ap (λ n. count_below n (places_from (at + 1) bits) + 1) e ∙ ap (λ n. n + 1) (places_before (at + 1) row bits) ∙ omega (arith, sum_by-cons (λ (b : Bool). cond b 1 0) true (take row bits))
places_before at (suc row) (false ∷ bits) =
    let e : at + suc row ≡ at + 1 + row = omega arith in
    ap (λ n. count_below n (places_from (at + 1) bits)) e ∙ places_before (at + 1) row bits ∙ omega (arith, sum_by-cons (λ (b : Bool). cond b 1 0) false (take row bits))

-- so many are below a row as bits before it are true
pub places_rank : (row : ℕ) (bits : List Bool) → count_below row (places_of bits) ≡ rank bits row
places_rank row bits = let e : row ≡ 0 + row = omega arith in ap (λ n. count_below n (places_of bits)) e ∙ places_before 0 row bits

increasing_cons : (x : ℕ) (xs : List ℕ) → (0 < length xs → x < get_or xs 0 0) → IsStrictlyIncreasing xs → IsStrictlyIncreasing (x ∷ xs)
increasing_cons x xs h r zero l = h (omega arith)
increasing_cons x xs h r (suc k) l =
    let e : suc k + 1 ≡ suc (k + 1) = omega arith in
    subst (λ n. get_or xs k 0 < get_or (x ∷ xs) n 0) (sym e) (r k (omega arith))

places_first : (at : ℕ) (bits : List Bool) → 0 < length (places_from at bits) → at ≤ get_or (places_from at bits) 0 0
places_first at [] h = absurd (omega arith)
places_first at (true ∷ bits) h = omega arith
places_first at (false ∷ bits) h = omega (arith, places_first (at + 1) bits h)

pub places_rise : (at : ℕ) (bits : List Bool) → IsStrictlyIncreasing (places_from at bits)
places_rise at [] = λ k h. absurd (omega arith)
places_rise at (true ∷ bits) = increasing_cons at (places_from (at + 1) bits) (λ some. omega (arith, places_first (at + 1) bits some)) (places_rise (at + 1) bits)
places_rise at (false ∷ bits) = places_rise (at + 1) bits
