-- Searches in lists that rise strictly, and in the exceptions of one chunk.
use Rattle.std.proofs.Common.{◌≡◌, ℕ, ℤ, pos, zero, suc, ◌+◌, ◌-◌, ◌*◌, ◌/◌, ◌%◌, ◌≤◌, ◌<◌, ◌≢◌, inl, inr, min, Bool, true, false, cond, nat_lt, List, [], ◌∷◌, length, get_or, map, refl, sym, ◌∙◌, ap, subst, arith}
use Rattle.std.specs.Prelude.{Option, Some, None}
use Rattle.std.specs.List.{list_any, count_by}
use Rattle.std.specs.List.Sorted.{IsStrictlyIncreasing, IsNonDecreasing, IsNonDecreasingBy}
use Rattle.std.specs.declared.cmp.Ordering.{Ordering}
use Rattle.std.specs.declared.cmp.Ordering.TheVariants.{Less}
use Rattle.std.specs.Ordering.{nat_cmp, int_cmp, is_lt, is_eq, ordering_index}
use Rattle.std.proofs.lemmas.Bool.{cases_lt, cases_eq, false≢true}
use Rattle.std.proofs.lemmas.Bool.Decides.{nat_tests}
use Rattle.std.proofs.lemmas.Int.{ints}
use Rattle.std.proofs.lemmas.List.{get_or-map, length-map, get_or_default}
use Rattle.std.proofs.lemmas.List.Folds.{list_any_at}
use Rattle.std.proofs.lemmas.List.Recursion.{is_count_by}
use Rattle.vx_rows.specs.declared.dtype.DType.{DType}
use Rattle.vx_rows.specs.declared.value.Value.{Value}
use Rattle.vx_rows.specs.Fits.{rows_fit}
use Rattle.vx_base.specs.Column.{Flat}
use Rattle.vx_base.specs.Numbers.{numbers_of, row_int, magnitude, is_unsigned}
use Rattle.vx_base.specs.Checks.{count_below}
use Rattle.vx_base.proofs.Numbers.{number_at, numbers_at}
use Rattle.vx_search.specs.Answers.{standing}
use Rattle.vx_search.specs.Numbers.{or_zero}
use Rattle.vx_search.specs.Places.{place, index_of, search_bound}
use Rattle.vx_search.specs.Halving.{rounds, IsFirstFrom}
use Rattle.vx_search.proofs.Powers.{log_least}
use Rattle.vx_search.proofs.Sorted.{places_searchable}
use Rattle.vx_search.specs.declared.result.SearchResult.TheVariants.{Found, NotFound}
use Rattle.vx_search.specs.declared.result.SearchSortedSide.TheVariants.{Left}
use Rattle.vx_patches.specs.Places.{Index, IsIndex, HaveChunks, HaveChunkOffsets, chunks_over, indices_of}
use Rattle.vx_patches.specs.Search.{IsBetween, place_among, comparisons}
use Rattle.vx_patches.proofs.Counts.{Rising, Rising-from_increasing, rise-le, count_is, count-le, count-le-length, count-span, below_count, above_count, below, by_recursion}

-- ---- places among numbers that rise

lt_test : (x v : ℕ) → is_lt (nat_cmp x v) ≡ nat_lt x v
lt_test x v = grind (arith, nat_tests)

eq_yes : (x v : ℕ) → x ≡ v → is_eq (nat_cmp x v) ≡ true
eq_yes x v e = grind (arith, nat_tests)

eq_no : (x v : ℕ) → x ≢ v → is_eq (nat_cmp x v) ≡ false
eq_no x v e = grind (arith, nat_tests)

abbrev less_in : List Ordering → ℕ
less_in [] = 0
less_in (o ∷ os) = cond (is_lt o) (1 + less_in os) (less_in os)

less_standing : (v : ℕ) (xs : List ℕ) → less_in (standing nat_cmp xs v) ≡ below v xs
less_standing v [] = refl
less_standing v (x ∷ xs) = rw (lt_test x v, less_standing v xs) refl

pub count_standing : (v : ℕ) (xs : List ℕ) → count_by is_lt (standing nat_cmp xs v) ≡ count_below v xs
count_standing v xs = sym (is_count_by less_in is_lt refl (λ o os. refl) (standing nat_cmp xs v)) ∙ less_standing v xs ∙ by_recursion v xs

none_equal : (v : ℕ) (xs : List ℕ) → ((i : ℕ) → i < length xs → get_or xs i 0 ≢ v) → list_any is_eq (standing nat_cmp xs v) ≡ false
none_equal v [] h = refl
none_equal v (x ∷ xs) h = rw (eq_no x v (h 0 (omega arith))) (none_equal v xs (λ i l. h (suc i) (omega arith)))

one_equal : (v : ℕ) (xs : List ℕ) (p : ℕ) → p < length xs → get_or xs p 0 ≡ v → list_any is_eq (standing nat_cmp xs v) ≡ true
one_equal v xs p h e =
    let os = standing nat_cmp xs v in
    let long : length os ≡ length xs = length-map xs (λ (x : ℕ). nat_cmp x v) in
    let here : get_or os p Less ≡ nat_cmp (get_or xs p 0) v = get_or-map (λ (x : ℕ). nat_cmp x v) xs p 0 Less h in
    list_any_at is_eq os p Less (omega arith) (ap is_eq here ∙ eq_yes (get_or xs p 0) v e)

pub found : (v : ℕ) (xs : List ℕ) → IsStrictlyIncreasing xs → (p : ℕ) → p < length xs → get_or xs p 0 ≡ v → Found p ≡ place_among xs v
found v xs r p h e =
    let rising : Rising xs = Rising-from_increasing xs r in
    let count : count_below v xs ≡ p = count_is v xs rising p (omega arith) (λ some. omega (arith, rising (p - 1) p (omega arith) h, e)) (λ l. omega (arith, e)) in
    rw (one_equal v xs p h e, count_standing v xs, count) refl

absent : (v : ℕ) (xs : List ℕ) → IsStrictlyIncreasing xs → (p : ℕ) → p ≤ length xs → (0 < p → get_or xs (p - 1) 0 < v) → (p < length xs → v < get_or xs p 0) →
    (i : ℕ) → i < length xs → get_or xs i 0 ≢ v
absent v xs r p w low high i l = elim (cases_lt i p) as (λ _. get_or xs i 0 ≢ v) [
  | inl before ↦ omega (arith, low (omega arith), rise-le xs r i (p - 1) (omega arith) (omega arith))
  | inr after ↦ omega (arith, high (omega arith), rise-le xs r p i after l)
]

pub missing : (v : ℕ) (xs : List ℕ) → IsStrictlyIncreasing xs → (p : ℕ) → p ≤ length xs → (0 < p → get_or xs (p - 1) 0 < v) → (p < length xs → v < get_or xs p 0) → NotFound p ≡ place_among xs v
missing v xs r p w low high =
    let count : count_below v xs ≡ p = count_is v xs (Rising-from_increasing xs r) p w low (λ l. omega (arith, high l)) in
    rw (none_equal v xs (absent v xs r p w low high), count_standing v xs, count) refl

pub past_all : (v : ℕ) (xs : List ℕ) → IsStrictlyIncreasing xs → (0 < length xs → get_or xs (length xs - 1) 0 < v) → NotFound (length xs) ≡ place_among xs v
past_all v xs r last = missing v xs r (length xs) (omega arith) last (λ l. absurd (omega arith))

-- the first place that isn't below, among those between, where no equal one stands
pub missing_from : (v : ℕ) (xs : List ℕ) → IsStrictlyIncreasing xs → (start end p : ℕ) → IsBetween xs v start end → p ≤ end → (0 < p → get_or xs (p - 1) 0 < v) → (p < length xs → v ≤ get_or xs p 0) →
    (p < end → get_or xs p 0 ≢ v) → NotFound p ≡ place_among xs v
missing_from v xs r start end p b w low high apart =
    missing v xs r p (omega (arith, b.inside)) low (λ l. elim (cases_lt p end) as (λ _. v < get_or xs p 0) [
      | inl inside ↦ let differ = apart inside in omega (arith, high l)
      | inr past ↦ let same : p ≡ end = omega arith in let above : v < get_or xs end 0 = b.high (omega arith) in omega (arith, above, ap (λ (n : ℕ). get_or xs n 0) same)
    ])

index_of_cond : (b : Bool) (k : ℕ) → index_of (cond b (Found k) (NotFound k)) ≡ k
index_of_cond true k = refl
index_of_cond false k = refl

-- the place is how many are below
pub index_place : (v : ℕ) (xs : List ℕ) → index_of (place_among xs v) ≡ count_below v xs
index_place v xs = index_of_cond (list_any is_eq (standing nat_cmp xs v)) (count_by is_lt (standing nat_cmp xs v)) ∙ count_standing v xs

found_cond : (b : Bool) (k p : ℕ) → Found p ≡ cond b (Found k) (NotFound k) → (b ≡ true) × (p ≡ k)
found_cond true k p e = (refl, cc)
found_cond false k p e = absurd (cc)

missing_cond : (b : Bool) (k p : ℕ) → NotFound p ≡ cond b (Found k) (NotFound k) → b ≡ false
missing_cond true k p e = absurd (cc)
missing_cond false k p e = refl

-- what is found stands at the place
pub stands_at : (v : ℕ) (xs : List ℕ) → IsStrictlyIncreasing xs → (p : ℕ) → Found p ≡ place_among xs v → (p < length xs) × (get_or xs p 0 ≡ v)
stands_at v xs r p e =
    let os = standing nat_cmp xs v in
    let is = found_cond (list_any is_eq os) (count_by is_lt os) p e in
    let count : count_below v xs ≡ p = sym (count_standing v xs) ∙ sym is.1 in
    let rising : Rising xs = Rising-from_increasing xs r in
    let low : (i : ℕ) → i < p → get_or xs i 0 < v = λ i h. below_count v xs rising i (omega arith) in
    let high : (i : ℕ) → p ≤ i → i < length xs → v ≤ get_or xs i 0 = λ i h l. above_count v xs rising i (omega arith) l in
    let Goal : Type 0 = (p < length xs) × (get_or xs p 0 ≡ v) in
    let none : ((i : ℕ) → i < length xs → get_or xs i 0 ≢ v) → Goal = λ h. absurd (cc (is.0, none_equal v xs h)) in
    elim (cases_lt p (length xs)) as (λ _. Goal) [
      | inl inside ↦ elim (cases_eq (get_or xs p 0) v) as (λ _. Goal) [
        | inl same ↦ (inside, same)
        | inr apart ↦ none (absent v xs r p (omega arith) (λ some. low (p - 1) (omega arith)) (λ l. omega (arith, high p (omega arith) l)))
      ]
      | inr past ↦ none (absent v xs r p (omega (arith, count-le-length v xs)) (λ some. low (p - 1) (omega arith)) (λ l. absurd (omega arith)))
    ]

-- what is not found stands nowhere
pub stands_nowhere : (v : ℕ) (xs : List ℕ) (p : ℕ) → NotFound p ≡ place_among xs v → (i : ℕ) → i < length xs → get_or xs i 0 ≢ v
stands_nowhere v xs p e i h =
    let os = standing nat_cmp xs v in
    λ same. false≢true (sym (missing_cond (list_any is_eq os) (count_by is_lt os) p e) ∙ one_equal v xs i h same)

-- rows and indices
less_cmp : (n offset row : ℕ) → offset ≤ n → nat_cmp (n - offset) row ≡ nat_cmp n (row + offset)
less_cmp n offset row h = grind (arith, nat_tests)

standing_rows : (row offset : ℕ) (xs : List ℕ) → ((k : ℕ) → k < length xs → offset ≤ get_or xs k 0) → standing nat_cmp (map (λ (n : ℕ). n - offset) xs) row ≡ standing nat_cmp xs (row + offset)
standing_rows row offset [] h = refl
standing_rows row offset (x ∷ xs) h = rw (less_cmp x offset row (h 0 (omega arith)), standing_rows row offset xs (λ k l. h (suc k) (omega arith))) refl

pub place_rows : (row offset : ℕ) (xs : List ℕ) → ((k : ℕ) → k < length xs → offset ≤ get_or xs k 0) → place_among (map (λ (n : ℕ). n - offset) xs) row ≡ place_among xs (row + offset)
place_rows row offset xs h = ap (place Left) (standing_rows row offset xs h)

-- ---- a search by halves over a column

pub entry_at : (t : DType) (rs : List (Option Value)) (v k : ℕ) → rows_fit t rs ≡ true → is_unsigned t ≡ true → k < length rs
    → get_or (standing (λ (x : Option ℤ) (w : ℕ). int_cmp (or_zero x) (pos w)) (map row_int rs) v) k Less ≡ int_cmp (pos (get_or (numbers_of rs) k 0)) (pos v)
entry_at t rs v k fits unsigned h =
    let n = number_at t rs k fits unsigned h in
    let long : k < length (map row_int rs) = omega (arith, length-map rs row_int) in
    get_or-map (λ (x : Option ℤ). int_cmp (or_zero x) (pos v)) (map row_int rs) k None Less long
    ∙ ap (λ (x : Option ℤ). int_cmp (or_zero x) (pos v)) (get_or-map row_int rs k None None h ∙ n.is)
    ∙ ap (λ (m : ℕ). int_cmp (pos m) (pos v)) (sym (numbers_at rs k h ∙ ap magnitude n.is))

int_less : (a b : ℕ) → is_lt (int_cmp (pos a) (pos b)) ≡ true → a < b
int_less a b e = grind (arith, ints)

int_more : (a b : ℕ) → is_lt (int_cmp (pos a) (pos b)) ≡ false → b ≤ a
int_more a b e = grind (arith, ints)

pub first_below : (t : DType) (rs : List (Option Value)) (v start end i : ℕ) → rows_fit t rs ≡ true → is_unsigned t ≡ true → IsBetween (numbers_of rs) v start end
    → IsFirstFrom (standing (λ (x : Option ℤ) (w : ℕ). int_cmp (or_zero x) (pos w)) (map row_int rs) v) start end i → 0 < i → get_or (numbers_of rs) (i - 1) 0 < v
first_below t rs v start end i fits unsigned b f some =
    let long : length (numbers_of rs) ≡ length rs = length-map rs (λ r. magnitude (row_int r)) in
    elim (cases_lt start i) as (λ _. get_or (numbers_of rs) (i - 1) 0 < v) [
      | inl more ↦ int_less (get_or (numbers_of rs) (i - 1) 0) v (ap is_lt (sym (entry_at t rs v (i - 1) fits unsigned (omega (arith, f.1, b.inside)))) ∙ f.2 (i - 1) (omega arith) (omega arith))
      | inr less ↦ let same : i ≡ start = omega (arith, f.0) in subst (λ (n : ℕ). get_or (numbers_of rs) (n - 1) 0 < v) (sym same) (b.low (omega arith))
    ]

pub first_above : (t : DType) (rs : List (Option Value)) (v start end i : ℕ) → rows_fit t rs ≡ true → is_unsigned t ≡ true → IsBetween (numbers_of rs) v start end
    → IsFirstFrom (standing (λ (x : Option ℤ) (w : ℕ). int_cmp (or_zero x) (pos w)) (map row_int rs) v) start end i → i < length (numbers_of rs) → v ≤ get_or (numbers_of rs) i 0
first_above t rs v start end i fits unsigned b f inside =
    let long : length (numbers_of rs) ≡ length rs = length-map rs (λ r. magnitude (row_int r)) in
    elim (cases_lt i end) as (λ _. v ≤ get_or (numbers_of rs) i 0) [
      | inl more ↦ int_more (get_or (numbers_of rs) i 0) v (ap is_lt (sym (entry_at t rs v i fits unsigned (omega arith))) ∙ f.3 more)
      | inr less ↦ let same : i ≡ end = omega (arith, f.1) in let high : v < get_or (numbers_of rs) end 0 = b.high (omega arith) in omega (arith, ap (λ (n : ℕ). get_or (numbers_of rs) n 0) same, high)
    ]

pub increasing_is_monotone : (xs : List ℕ) → IsStrictlyIncreasing xs → IsNonDecreasing xs
increasing_is_monotone xs r i j d h l = omega (arith, get_or_default xs i d 0 (omega arith), get_or_default xs j d 0 l, rise-le xs r i j h l)

-- one read more stays within the bound
pub rounds_more : (n : ℕ) → 0 < n → rounds n + 1 ≤ search_bound n
unfolding search_bound
rounds_more zero h = absurd (omega arith)
rounds_more (suc n) h = omega arith

pub rounds_within : (n : ℕ) → rounds n ≤ search_bound n
unfolding search_bound
rounds_within zero = omega arith
rounds_within (suc n) = omega arith

-- within one chunk
few_in_chunk : (n : ℕ) → n ≤ 1024 → search_bound n ≤ 22
unfolding search_bound
few_in_chunk zero h = omega arith
few_in_chunk (suc n) h = omega (arith, log_least (suc n) 10 (omega arith))

-- ---- the exceptions of the row's chunk

pub record InChunk (xs : List ℕ) (v start end : ℕ) : Type 0 where
  pub between : IsBetween xs v start end
  pub few : end - start ≤ 1024

chunk_bounds : (len offset index c n : ℕ) → index < len → c ≡ (index + offset % 1024) / 1024 → n ≡ chunks_over (offset % 1024 + len) →
    (c < n) × (1024 * (offset / 1024 + c) ≤ index + offset) × (index + offset < 1024 * (offset / 1024 + c) + 1024) × (c + 1 ≡ n → offset + len ≤ 1024 * (offset / 1024 + c) + 1024)
chunk_bounds len offset index c n h e k = (omega arith, omega arith, omega arith, λ z. omega arith)

pub in_chunk : (len offset : ℕ) (xs co : List ℕ) (w index c start end : ℕ) → HaveChunkOffsets len offset xs co w → IsStrictlyIncreasing xs → get_or xs (length xs - 1) 0 < offset + len → index < len →
    c ≡ (index + offset % 1024) / 1024 → start ≡ min (get_or co c 0 - get_or co 0 0 - w) (length xs) →
    (c + 1 < length co → end ≡ min (get_or co (c + 1) 0 - get_or co 0 0 - w) (length xs)) → (c + 1 ≡ length co → end ≡ length xs) → InChunk xs (index + offset) start end
in_chunk len offset xs co w index c start end d r last h e from to whole =
    let bounds = chunk_bounds len offset index c (length co) h e d.number in
    let v = 1024 * (offset / 1024 + c) in
    let first : start ≡ count_below v xs = from ∙ d.counts c bounds.0 in
    let rising : Rising xs = Rising-from_increasing xs r in
    let low : 0 < start → get_or xs (start - 1) 0 < index + offset = λ some. omega (arith, bounds.1, below_count v xs rising (start - 1) (omega arith)) in
    let top : start ≤ length xs = omega (arith, count-le-length v xs) in
    elim (cases_lt (c + 1) (length co)) as (λ _. InChunk xs (index + offset) start end) [
      | inl more ↦
          let next : 1024 * (offset / 1024 + (c + 1)) ≡ v + 1024 = omega arith in
          let second : end ≡ count_below (v + 1024) xs = to more ∙ d.counts (c + 1) more ∙ ap (λ n. count_below n xs) next in
          record {
            between = record {
              ordered = omega (arith, count-le v (v + 1024) xs rising (omega arith));
              inside = omega (arith, count-le-length (v + 1024) xs);
              low = low;
              high = λ some. omega (arith, bounds.2, above_count (v + 1024) xs rising end (omega arith) some);
            };
            few = omega (arith, count-span v 1024 xs r);
          }
      | inr less ↦
          let all : end ≡ length xs = whole (omega (arith, bounds.0)) in
          record {
            between = record { ordered = omega arith; inside = omega arith; low = low; high = λ some. absurd (omega arith) };
            few = last_chunk v start (length xs) (offset + len) (get_or xs start 0) (get_or xs (length xs - 1) 0) end all (bounds.3 (omega (arith, bounds.0))) last
                (λ some. above_count v xs rising start (omega arith) some) (λ some. rise-le xs r start (length xs - 1) (omega arith) (omega arith));
          }
    ]
  where
    last_chunk : (v start m top x y end : ℕ) → end ≡ m → top ≤ v + 1024 → y < top → (start < m → v ≤ x) → (start < m → x + (m - 1 - start) ≤ y) → end - start ≤ 1024
    last_chunk v start m top x y end e h k f g = elim (cases_lt start m) as (λ _. end - start ≤ 1024) [ inl some ↦ omega (arith, f some, g some) | inr none ↦ omega arith ]

pub chunks_of : (len offset : ℕ) (xs : List ℕ) (o : Option Flat) (c : Flat) (w : ℕ) → HaveChunks len offset xs o w → o ≡ Some c → (is_unsigned c.dtype ≡ true) × HaveChunkOffsets len offset xs (numbers_of c.rows) w
chunks_of len offset xs o c w h e = subst (λ (p : Option Flat). HaveChunks len offset xs p w) e h

pub near : (index : Index) → IsIndex index → (c : Flat) (row k start end : ℕ) → index.chunk_offsets ≡ Some c → row < index.len →
    k ≡ (row + index.offset % 1024) / 1024 → start ≡ min (get_or (numbers_of c.rows) k 0 - get_or (numbers_of c.rows) 0 0 - index.within) (length (indices_of index)) →
    (k + 1 < length (numbers_of c.rows) → end ≡ min (get_or (numbers_of c.rows) (k + 1) 0 - get_or (numbers_of c.rows) 0 0 - index.within) (length (indices_of index))) →
    (k + 1 ≡ length (numbers_of c.rows) → end ≡ length (indices_of index)) → InChunk (indices_of index) (row + index.offset) start end
near index s c row k start end e h at from to whole =
    in_chunk index.len index.offset (indices_of index) (numbers_of c.rows) index.within row k start end
    (chunks_of index.len index.offset (indices_of index) index.chunk_offsets c index.within s.chunks e).1 s.rising s.below h at from to whole

pub few : (o : Option Flat) (c : Flat) (n m : ℕ) → o ≡ Some c → n ≤ 1024 → search_bound n ≤ comparisons o m
few o c n m e h = subst (λ (p : Option Flat). search_bound n ≤ comparisons p m) (sym e) (few_in_chunk n h)

-- ---- the same, for a reader of the column

module _ (column reader : Flat) (same : column ≡ reader) (v : ℕ) where
  pub searchable_seen : rows_fit column.dtype column.rows ≡ true → is_unsigned column.dtype ≡ true → IsStrictlyIncreasing (numbers_of column.rows) →
      IsNonDecreasingBy (λ (x : Option ℤ). ordering_index (int_cmp (or_zero x) (pos v))) (map row_int reader.rows)
  searchable_seen fits unsigned r =
      subst (λ (c : Flat). IsNonDecreasingBy (λ (x : Option ℤ). ordering_index (int_cmp (or_zero x) (pos v))) (map row_int c.rows)) same
      (places_searchable column.dtype column.rows v fits unsigned (increasing_is_monotone (numbers_of column.rows) r))

  abbrev Stops : Flat → ℕ → ℕ → ℕ → Type 0
  Stops c start end i = IsFirstFrom (standing (λ (x : Option ℤ) (w : ℕ). int_cmp (or_zero x) (pos w)) (map row_int c.rows) v) start end i

  pub first_below_seen : (start end i : ℕ) → rows_fit column.dtype column.rows ≡ true → is_unsigned column.dtype ≡ true → IsBetween (numbers_of column.rows) v start end → Stops reader start end i →
      0 < i → get_or (numbers_of column.rows) (i - 1) 0 < v
  first_below_seen start end i fits unsigned b f = first_below column.dtype column.rows v start end i fits unsigned b (subst (λ (c : Flat). Stops c start end i) (sym same) f)

  pub first_above_seen : (start end i : ℕ) → rows_fit column.dtype column.rows ≡ true → is_unsigned column.dtype ≡ true → IsBetween (numbers_of column.rows) v start end → Stops reader start end i →
      i < length (numbers_of column.rows) → v ≤ get_or (numbers_of column.rows) i 0
  first_above_seen start end i fits unsigned b f = first_above column.dtype column.rows v start end i fits unsigned b (subst (λ (c : Flat). Stops c start end i) (sym same) f)
