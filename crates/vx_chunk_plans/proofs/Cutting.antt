-- Runs cut at the ends of chunks, dealt out, and put back in order.
use Rattle.std.proofs.Common.{arith, refl, sym, ◌∙◌, ap, subst, ◌≡◌, ◌<◌, ◌≤◌, ◌+◌, ◌*◌, ◌-◌, ◌^◌, ◌⊎◌, inl, inr, min, ℕ, zero, suc, Bool, true, false, cond, ◌&&◌, List, [], ◌∷◌, ◌++◌, map, length, get_or, set, take, drop, Some, None, append_assoc, length-append, zero-add}
use Rattle.std.specs.Prelude.{nat_le, count_by, sum_by}
use Rattle.std.specs.List.{All, AllZip, flat_map, range_with_len, slice_range}
use Rattle.std.proofs.Math.Nat.{add-mul, mul-le-mul, le_refl}
use Rattle.std.proofs.lemmas.Bool.{le-leb}
use Rattle.std.proofs.lemmas.Bool.Decides.{nat_tests}
use Rattle.std.proofs.lemmas.List.{take_more, drop_more, append-nil, map_push, length-map, take-append-drop, take_at, drop_at}
use Rattle.std.proofs.lemmas.List.Concat.{flat_map-cons}
use Rattle.std.proofs.lemmas.List.FromFn.{length-range_with_len}
use Rattle.std.proofs.lemmas.List.Sums.{sum_by-cons, sum_by_more, sum_by_more_le}
use Rattle.std.proofs.lemmas.Grind.{flat_map-append}
use Rattle.vx_chunks.specs.Bounds.{total}
use Rattle.vx_chunks.proofs.Sums.{total-take_more, total-take_le}
use Rattle.vx_chunk_plans.specs.Deals.{bucket_of, dealt, in_turn}
use Rattle.vx_chunk_plans.specs.Runs.{run_rows, piece_rows, in_runs, OrdersWithin, IsRunOf, AreRunsOf, run_total, part_row, IsPartOf}
use Rattle.vx_chunk_plans.proofs.Laying.{shifted}
use Rattle.vx_chunk_plans.proofs.Dealing.{bucket_yes, bucket-append, dealt_push, length-dealt, get_or-dealt, zip_dealt, turned, split, weight, widths_within, Counts, counts_within, counts_more, part_rows}
use Rattle.vx_chunk_plans.proofs.Taking.{walk_within}

-- a run of a chunk, behind the chunk's number
abbrev pub Part : Type 0
Part = ℕ × (ℕ × ℕ)

abbrev pub run_range : ℕ × ℕ → List ℕ
run_range run = range_with_len run.0 run.1

pub rows_both : (a b : List (ℕ × ℕ)) → run_rows (a ++ b) ≡ run_rows a ++ run_rows b
rows_both a b = flat_map-append run_range a b

rows_one : (run : ℕ × ℕ) → run_rows (run ∷ []) ≡ range_with_len run.0 run.1
rows_one run = flat_map-cons run_range run [] ∙ append-nil (range_with_len run.0 run.1)

pub wide_is : (runs : List (ℕ × ℕ)) → length (run_rows runs) ≡ run_total runs
wide_is [] = refl
wide_is (run ∷ runs) =
    omega (arith, ap length (flat_map-cons run_range run runs), length-append (range_with_len run.0 run.1) (run_rows runs), length-range_with_len run.0 run.1, wide_is runs, sum_by-cons (λ (r : ℕ × ℕ). r.1) run runs)

range_add : (a n m : ℕ) → range_with_len a (n + m) ≡ range_with_len a n ++ range_with_len (a + n) m
range_add a zero m =
    let e : a ≡ a + 0 = omega arith in
    ap (range_with_len a) (zero-add m) ∙ ap (λ b. range_with_len b m) e
range_add a (suc n) m =
    let e : suc n + m ≡ suc (n + m) = omega arith in
    let f : a + 1 + n ≡ a + suc n = omega arith in
    ap (range_with_len a) e ∙ ap (λ (xs : List ℕ). a ∷ xs) (range_add (a + 1) n m ∙ ap (λ b. range_with_len (a + 1) n ++ range_with_len b m) f)

shifted_range : (t a n : ℕ) → shifted t (range_with_len a n) ≡ range_with_len (t + a) n
shifted_range t a zero = refl
shifted_range t a (suc n) =
    let e : t + (a + 1) ≡ t + a + 1 = omega arith in
    ap (λ (xs : List ℕ). (t + a) ∷ xs) (shifted_range t (a + 1) n ∙ ap (λ b. range_with_len b n) e)

part_is : (lens : List ℕ) (s : Part) → part_rows run_rows refl rows_both lens s ≡ part_row lens s
part_is lens s = ap (shifted (total (take s.0 lens))) (rows_one s.1) ∙ shifted_range (total (take s.0 lens)) s.1.0 s.1.1

parts_are : (lens : List ℕ) (parts : List Part) → flat_map (part_rows run_rows refl rows_both lens) parts ≡ flat_map (part_row lens) parts
parts_are lens [] = refl
parts_are lens (s ∷ parts) =
    flat_map-cons (part_rows run_rows refl rows_both lens) s parts
    ∙ ap (λ (r : List ℕ). r ++ flat_map (part_rows run_rows refl rows_both lens) parts) (part_is lens s)
    ∙ ap (λ (r : List ℕ). part_row lens s ++ r) (parts_are lens parts)
    ∙ sym (flat_map-cons (part_row lens) s parts)

-- a part more
pub part_pushed : (lens : List ℕ) (parts : List Part) (chunk place count : ℕ) →
    flat_map (part_row lens) (parts ++ (chunk, (place, count)) ∷ []) ≡ flat_map (part_row lens) parts ++ range_with_len (total (take chunk lens) + place) count
part_pushed lens parts chunk place count =
    let part : Part = (chunk, (place, count)) in
    flat_map-append (part_row lens) parts (part ∷ [])
    ∙ ap (λ (r : List ℕ). flat_map (part_row lens) parts ++ r) (flat_map-cons (part_row lens) part [] ∙ append-nil (part_row lens part))

pub part_none : (out : List ℕ) (start count : ℕ) → count ≤ 0 → out ≡ out ++ range_with_len start count
part_none out start count h =
    let z : count ≡ 0 = omega arith in
    sym (append-nil out) ∙ ap (λ n. out ++ range_with_len start n) (sym z)

-- a run that is cut: what is left of it begins with the next chunk
pub cut_rows : (lens : List ℕ) (out out' whole : List ℕ) (chunk place left taken : ℕ) → chunk < length lens → place ≤ get_or lens chunk 0 → taken ≡ min left (get_or lens chunk 0 - place) →
    out' ≡ out ++ range_with_len (total (take chunk lens) + place) taken → out ++ range_with_len (total (take chunk lens) + place) left ≡ whole →
    out' ++ range_with_len (total (take (chunk + 1) lens) + 0) (left - taken) ≡ whole
cut_rows lens out out' whole chunk place left taken h p t pushed known =
    let from = total (take chunk lens) + place in
    let sum : left ≡ taken + (left - taken) = omega arith in
    ap (λ (r : List ℕ). out' ++ r) (tail (left - taken) refl)
    ∙ ap (λ (r : List ℕ). r ++ range_with_len (from + taken) (left - taken)) pushed
    ∙ append_assoc out (range_with_len from taken) (range_with_len (from + taken) (left - taken))
    ∙ ap (λ (r : List ℕ). out ++ r) (sym (ap (range_with_len from) sum ∙ range_add from taken (left - taken)))
    ∙ known
  where
    tail : (rest : ℕ) → rest ≡ left - taken → range_with_len (total (take (chunk + 1) lens) + 0) rest ≡ range_with_len (total (take chunk lens) + place + taken) rest
    tail zero e = refl
    tail (suc r) e =
        let same : total (take (chunk + 1) lens) + 0 ≡ total (take chunk lens) + place + taken = omega (arith, total-take_more lens chunk 0 h) in
        ap (λ b. range_with_len b (suc r)) same

pub cut_within : (lens : List ℕ) (chunk place left : ℕ) → 0 < left → total (take chunk lens) + place + left ≤ total lens → chunk < length lens
cut_within lens chunk place left some h = walk_within lens chunk (total (take chunk lens) + place) (omega arith) (omega arith)

-- the cost of one more
pub cost_more_by : {X : Type 0} (p : X → Bool) (xs : List X) (i : ℕ) (d : X) (before now new bound : ℕ) → i < length xs → now ≤ before + count_by p (take i xs) * bound →
    new ≤ now + cond (p (get_or xs i d)) 1 0 * bound → new ≤ before + count_by p (take (i + 1) xs) * bound
cost_more_by p xs i d before now new bound h known step =
    let c = count_by p (take i xs) in
    let w = cond (p (get_or xs i d)) 1 0 in
    let whole : count_by p (take (i + 1) xs) * bound ≡ c * bound + w * bound = ap (λ n. n * bound) (sum_by_more (λ x. cond (p x) 1 0) xs i d h) ∙ add-mul c w bound in
    omega (arith, whole)

pub cost_within_by : {X : Type 0} (p : X → Bool) (xs : List X) (i : ℕ) (d : X) (before now new bound : ℕ) → i < length xs → now ≤ before + count_by p (take i xs) * bound →
    new ≤ now + cond (p (get_or xs i d)) 1 0 * bound → new ≤ before + count_by p xs * bound
cost_within_by p xs i d before now new bound h known step =
    let c = count_by p (take i xs) in
    let w = cond (p (get_or xs i d)) 1 0 in
    let fewer : c + w ≤ count_by p xs = sum_by_more_le (λ x. cond (p x) 1 0) xs i d h in
    let most : (c + w) * bound ≤ count_by p xs * bound = mul-le-mul fewer (le_refl bound) in
    omega (arith, most, add-mul c w bound)

-- the runs of each piece are of its chunk
pub dealt_within : (lens : List ℕ) (parts : List Part) → All (IsPartOf lens) parts → AllZip AreRunsOf lens (dealt 0 (length lens) parts)
dealt_within lens parts there =
    zip_dealt IsRunOf 0 lens parts
    (λ i d h j below e. let s = get_or parts i d in
    let same : s.0 ≡ j = omega arith in
    subst (λ c. IsRunOf (get_or lens c 0) s.1) same (there i d h).1)

-- parts in turn are laid in their order
pub in_turn_parts : (lens : List ℕ) (parts : List Part) (pieces : List (List (ℕ × ℕ))) → length lens ≡ length pieces → pieces ≡ dealt 0 (length pieces) parts →
    All (λ s. s.0 < length pieces) parts → in_turn 0 parts ≡ true → piece_rows lens pieces ≡ flat_map (part_row lens) parts
in_turn_parts lens parts pieces e is below t =
    let same : pieces ≡ dealt 0 (length lens) parts = is ∙ ap (λ n. dealt 0 n parts) (sym e) in
    ap (piece_rows lens) same
    ∙ turned run_rows refl rows_both lens 0 parts t (λ i d h. omega (arith, below i d h))
    ∙ parts_are lens parts

-- the next place of each chunk
abbrev pub RunCounts : ℕ → List Part → List Part → List ℕ → Type 0
RunCounts n all xs next = Counts run_rows refl rows_both n all xs next

heavy : List Part → ℕ
heavy parts = weight run_rows refl rows_both parts

one_wide : (run : ℕ × ℕ) → length (run_rows (run ∷ [])) ≡ run.1
one_wide run = ap length (rows_one run) ∙ length-range_with_len run.0 run.1

pub weight_is : (parts : List Part) → weight run_rows refl rows_both parts ≡ sum_by (λ (s : Part). s.1.1) parts
weight_is [] = refl
weight_is (s ∷ parts) = omega (arith, one_wide s.1, weight_is parts, sum_by-cons (λ (p : Part). p.1.1) s parts)

totals : (k n : ℕ) (parts : List Part) → map run_total (dealt k n parts) ≡ map (λ b. length (run_rows b)) (dealt k n parts)
totals k zero parts = refl
totals k (suc n) parts = ap (λ (w : ℕ). w ∷ map run_total (dealt (k + 1) n parts)) (sym (wide_is (bucket_of k parts))) ∙ ap (λ (ws : List ℕ). length (run_rows (bucket_of k parts)) ∷ ws) (totals (k + 1) n parts)

pub fits_in_runs : (n : ℕ) (parts : List Part) → total (map run_total (dealt 0 n parts)) ≤ sum_by (λ (s : Part). s.1.1) parts
fits_in_runs n parts = omega (arith, ap total (totals 0 n parts), widths_within run_rows refl rows_both 0 n parts, weight_is parts)

pub counts_none : (n : ℕ) (all : List Part) (next : List ℕ) → length next ≡ n → ((k : ℕ) → k < n → get_or next k 0 ≡ total (take k (map run_total (dealt 0 n all)))) → RunCounts n all [] next
counts_none n all next long each = record { long = long; each = λ k h. omega (arith, each k h, ap (λ (ws : List ℕ). total (take k ws)) (totals 0 n all)) }

module _ (parts : List Part) (i n : ℕ) (next : List ℕ) (s : Part) (h : i < length parts) (at : s ≡ get_or parts i s) (below : s.0 < n)
    (counts : RunCounts n parts (take i parts) next) where
  whole : parts ≡ take i parts ++ s ∷ drop (i + 1) parts
  whole = sym (take-append-drop i parts) ∙ ap (λ (r : List Part). take i parts ++ r) (drop_more parts i s h ∙ ap (λ (x : Part). x ∷ drop (i + 1) parts) (sym at))

  pub run_room : get_or next s.0 0 + s.1.1 ≤ sum_by (λ (p : Part). p.1.1) parts
  run_room =
      let now = subst (λ (all : List Part). RunCounts n all (take i parts) next) whole counts in
      omega (arith, counts_within run_rows refl rows_both n (take i parts) s (drop (i + 1) parts) next below now, weight_is parts, ap (weight run_rows refl rows_both) whole, one_wide s.1)

  pub run_counts_next : RunCounts n parts (take (i + 1) parts) (set next s.0 (get_or next s.0 0 + s.1.1))
  run_counts_next =
      let more : take (i + 1) parts ≡ take i parts ++ s ∷ [] = take_more parts i s h ∙ ap (λ (x : Part). take i parts ++ x ∷ []) (sym at) in
      subst (λ (xs : List Part). RunCounts n parts xs (set next s.0 (get_or next s.0 0 + s.1.1))) (sym more)
      (subst (λ w. RunCounts n parts (take i parts ++ s ∷ []) (set next s.0 (get_or next s.0 0 + w))) (one_wide s.1) (counts_more run_rows refl rows_both n parts (take i parts) s next below counts))

  -- the rows of the part stand there
  pub run_next : (lens : List ℕ) → length lens ≡ n → let rows = piece_rows lens (dealt 0 n parts) in
      (slice_range rows (get_or next s.0 0) (get_or next s.0 0 + s.1.1) ≡ part_row lens s) × (get_or next s.0 0 + s.1.1 ≤ length rows)
  run_next lens long =
      let own : get_or (dealt 0 n parts) s.0 [] ≡ bucket_of s.0 (take i parts) ++ s.1 ∷ bucket_of s.0 (drop (i + 1) parts) =
      get_or-dealt 0 n s.0 parts [] below ∙ ap (λ k. bucket_of k parts) (zero-add s.0) ∙ ap (bucket_of s.0) whole
      ∙ bucket-append s.0 (take i parts) (s ∷ drop (i + 1) parts) ∙ ap (λ (r : List (ℕ × ℕ)). bucket_of s.0 (take i parts) ++ r) (bucket_yes s.0 s (drop (i + 1) parts) refl) in
      let (front, (back, (rows, there))) =
      split run_rows refl rows_both 0 lens (dealt 0 n parts) s.0 (bucket_of s.0 (take i parts)) s.1 (bucket_of s.0 (drop (i + 1) parts)) (length-dealt 0 n parts ∙ sym long) (omega (arith, below, long)) own in
      let place : get_or next s.0 0 ≡ length front = omega (arith, counts.each s.0 below, there) in
      let mid = shifted (0 + total (take s.0 lens)) (run_rows (s.1 ∷ [])) in
      let wide : length mid ≡ s.1.1 = length-map (run_rows (s.1 ∷ [])) (λ (p : ℕ). 0 + total (take s.0 lens) + p) ∙ one_wide s.1 in
      let width : get_or next s.0 0 + s.1.1 - get_or next s.0 0 ≡ s.1.1 = omega arith in (
        ap (λ m. take m (drop (get_or next s.0 0) (piece_rows lens (dealt 0 n parts)))) width
            ∙ ap (λ (r : List ℕ). take s.1.1 (drop (get_or next s.0 0) r)) rows
            ∙ ap (take s.1.1) (drop_at front (mid ++ back) (get_or next s.0 0) (sym place))
            ∙ take_at mid back s.1.1 wide
            ∙ ap (λ t. shifted t (run_rows (s.1 ∷ []))) (zero-add (total (take s.0 lens)))
            ∙ part_is lens s,
        omega (arith, ap length rows, length-append front (mid ++ back), length-append mid back, wide, place),
      )

pub order_pushed : (lens rows : List ℕ) (parts : List Part) (i : ℕ) (order : List (ℕ × ℕ)) (place : ℕ) (s : Part) → i < length parts → s ≡ get_or parts i s →
    in_runs rows (Some order) ≡ flat_map (part_row lens) (take i parts) → slice_range rows place (place + s.1.1) ≡ part_row lens s →
    in_runs rows (Some (order ++ (place, s.1.1) ∷ [])) ≡ flat_map (part_row lens) (take (i + 1) parts)
order_pushed lens rows parts i order place s h at known step =
    let cuts = λ (run : ℕ × ℕ). slice_range rows run.0 (run.0 + run.1) in
    let run : ℕ × ℕ = (place, s.1.1) in
    flat_map-append cuts order (run ∷ [])
    ∙ ap (λ (r : List ℕ). flat_map cuts order ++ r) (flat_map-cons cuts run [] ∙ append-nil (cuts run) ∙ step)
    ∙ ap (λ (r : List ℕ). r ++ part_row lens s) known
    ∙ sym (ap (flat_map (part_row lens)) (take_more parts i s h ∙ ap (λ (x : Part). take i parts ++ x ∷ []) (sym at))
    ∙ flat_map-append (part_row lens) (take i parts) (s ∷ [])
    ∙ ap (λ (r : List ℕ). flat_map (part_row lens) (take i parts) ++ r) (flat_map-cons (part_row lens) s [] ∙ append-nil (part_row lens s)))

pub empty_more : (k n : ℕ) → dealt {X = ℕ × ℕ} k (n + 1) [] ≡ dealt k n [] ++ [] ∷ []
empty_more k zero = refl
empty_more k (suc n) =
    let e : suc n + 1 ≡ suc (n + 1) = omega arith in
    ap (λ m. dealt {X = ℕ × ℕ} k m []) e ∙ ap (λ (bs : List (List (ℕ × ℕ))). [] ∷ bs) (empty_more (k + 1) n)

-- one run more
pub rows_more : (runs : List (ℕ × ℕ)) (i : ℕ) (old new : List ℕ) → i < length runs → old ≡ run_rows (take i runs) →
    new ≡ old ++ range_with_len (get_or runs i (0, 0)).0 (get_or runs i (0, 0)).1 → new ≡ run_rows (take (i + 1) runs)
rows_more runs i old new h known step =
    let run = get_or runs i (0, 0) in
    step ∙ ap (λ (r : List ℕ). r ++ range_with_len run.0 run.1) known
    ∙ sym (ap run_rows (take_more runs i (0, 0) h) ∙ rows_both (take i runs) (run ∷ []) ∙ ap (λ (r : List ℕ). run_rows (take i runs) ++ r) (rows_one run))

pub part_dealt : (n : ℕ) (parts : List Part) (i : ℕ) (d : Part) (pieces : List (List (ℕ × ℕ))) → i < length parts → All (λ s. s.0 < n) parts → pieces ≡ dealt 0 n (take i parts) →
    set pieces (get_or parts i d).0 (get_or pieces (get_or parts i d).0 [] ++ (get_or parts i d).1 ∷ []) ≡ dealt 0 n (take (i + 1) parts)
part_dealt n parts i d pieces h below e =
    let s = get_or parts i d in
    ap (λ (ps : List (List (ℕ × ℕ))). set ps s.0 (get_or ps s.0 [] ++ s.1 ∷ [])) e
    ∙ dealt_push 0 n s.0 (take i parts) s (omega arith) (below i d h)
    ∙ ap (dealt 0 n) (sym (take_more parts i d h))

pub part_turns : (parts : List Part) (i : ℕ) (d : Part) (last : ℕ) → i < length parts → last ≤ (get_or parts i d).0 → in_turn last (drop i parts) ≡ in_turn (get_or parts i d).0 (drop (i + 1) parts)
part_turns parts i d last h up =
    ap (in_turn last) (drop_more parts i d h) ∙ ap (λ b. b && in_turn (get_or parts i d).0 (drop (i + 1) parts)) (le-leb last (get_or parts i d).0 up)

pub part_falls : (parts : List Part) (i : ℕ) (d : Part) (last : ℕ) → i < length parts → (get_or parts i d).0 < last → in_turn last (drop i parts) ≡ false
part_falls parts i d last h down =
    ap (in_turn last) (drop_more parts i d h) ∙ ap (λ b. b && in_turn (get_or parts i d).0 (drop (i + 1) parts)) (lt-leb last (get_or parts i d).0 down)
  where
    lt-leb : (a b : ℕ) → b < a → nat_le a b ≡ false
    lt-leb a b l = grind (arith, nat_tests)

pub parts_wide : (lens : List ℕ) (parts : List Part) → length (flat_map (part_row lens) parts) ≡ sum_by (λ (s : Part). s.1.1) parts
parts_wide lens [] = refl
parts_wide lens (s ∷ parts) =
    omega (
      arith,
      ap length (flat_map-cons (part_row lens) s parts),
      length-append (part_row lens s) (flat_map (part_row lens) parts),
      length-range_with_len (total (take s.0 lens) + s.1.0) s.1.1,
      parts_wide lens parts,
      sum_by-cons (λ (p : Part). p.1.1) s parts,
    )

pub total_at : (pieces : List (List (ℕ × ℕ))) (i : ℕ) (d : List (ℕ × ℕ)) → i < length pieces → get_or (map run_total pieces) i 0 ≡ run_total (get_or pieces i d)
total_at [] i d h = absurd (omega arith)
total_at (p ∷ pieces) zero d h = refl
total_at (p ∷ pieces) (suc i) d h = total_at pieces i d (omega arith)

pub part_same : (parts : List Part) (i : ℕ) (d : Part) → i < length parts → get_or parts i d ≡ get_or parts i (get_or parts i d)
part_same [] i d h = absurd (omega arith)
part_same (p ∷ parts) zero d h = refl
part_same (p ∷ parts) (suc i) d h = part_other parts i d (get_or parts i d) (omega arith)
  where
    part_other : (ps : List Part) (j : ℕ) (a b : Part) → j < length ps → get_or ps j a ≡ get_or ps j b
    part_other [] j a b l = absurd (omega arith)
    part_other (p ∷ ps) zero a b l = refl
    part_other (p ∷ ps) (suc j) a b l = part_other ps j a b (omega arith)
