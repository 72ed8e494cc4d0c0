-- Spots of a take: found, dealt out, and put back in order.
use Rattle.std.proofs.Common.{arith, refl, sym, ◌∙◌, ap, subst, ◌≡◌, ◌<◌, ◌≤◌, ◌+◌, ◌*◌, ◌-◌, ◌^◌, ◌⊎◌, inl, inr, ℕ, zero, suc, Bool, true, false, cond, ◌&&◌, List, [], ◌∷◌, ◌++◌, map, length, get_or, set, take, drop, Option, Some, None, append_assoc, length-append, zero-add}
use Rattle.std.specs.Prelude.{nat_le, option_and_then, is_some, count_by}
use Rattle.std.specs.List.{All, AllZip, AllByRecursion, flat_map, list_all, slice_get}
use Rattle.std.proofs.Math.Seq.{get_or-append_seam}
use Rattle.std.proofs.Math.Nat.{add-mul, mul-le-mul, le_refl}
use Rattle.std.proofs.lemmas.Bool.{and_parts, and_from, leb-true, le-leb, cases_lt, cases_eq}
use Rattle.std.proofs.lemmas.Option.{slice_get-get_or}
use Rattle.std.proofs.lemmas.List.{take_more, drop_more, append-nil, map-append, map_push, length-map, take-append-drop, get_or_append_left}
use Rattle.std.proofs.lemmas.List.Concat.{flat_map-cons}
use Rattle.std.proofs.lemmas.List.Elements.{All-from_recursion}
use Rattle.std.proofs.lemmas.List.Sums.{sum_by_more, sum_by_more_le}
use Rattle.std.proofs.lemmas.Slice.Zip.{all_zipped_more}
use Rattle.vx_chunks.specs.Bounds.{total, running}
use Rattle.vx_chunks.proofs.Sums.{total-take_mono, total-take_more, total-take_le, total-take_all, get_or-running}
use Rattle.vx_chunk_plans.specs.Deals.{bucket_of, dealt, in_turn, present}
use Rattle.vx_chunk_plans.specs.Takes.{bucket_rows, in_order, never_falls, step_up, AreBelow, IsWithin, IsThere, IsSpotOf, IsFrom, spot_row, row_of, rows_of, chunk_of, chunk_after, IsChunkBelow, with_spot, counted, number_of, HasRoom}
use Rattle.vx_chunk_plans.proofs.Laying.{shifted}
use Rattle.vx_chunk_plans.proofs.Dealing.{bucket_yes, bucket-append, dealt_push, length-dealt, get_or-dealt, zip_dealt, turned, split, weight, widths_within, Counts, counts_within, counts_more, part_rows}

abbrev pub Spot : Type 0
Spot = ℕ × ℕ

abbrev pub Spots : Type 0
Spots = List (Option Spot)

-- going up, index by index
up_one : (last next : ℕ) (at : Option ℕ) (rest : List (Option ℕ)) → Some next ≡ step_up last at → never_falls last (at ∷ rest) ≡ never_falls next rest
up_one last next None rest e = ap (λ n. never_falls n rest) (let q : last ≡ next = cc in q)
up_one last next (Some index) rest e = by_test (nat_le last index) e
  where
    by_test : (b : Bool) → Some next ≡ cond b (Some index) None → (b && never_falls index rest) ≡ never_falls next rest
    by_test true e = ap (λ n. never_falls n rest) (let q : index ≡ next = cc in q)
    by_test false e = cc

down_one : (last : ℕ) (at : Option ℕ) (rest : List (Option ℕ)) → None ≡ step_up last at → never_falls last (at ∷ rest) ≡ false
down_one last None rest e = cc
down_one last (Some index) rest e = by_test (nat_le last index) e
  where
    by_test : (b : Bool) → None ≡ cond b (Some index) None → (b && never_falls index rest) ≡ false
    by_test true e = cc
    by_test false e = refl

pub goes_up : (indices : List (Option ℕ)) (i last next : ℕ) → i < length indices → Some next ≡ step_up last (get_or indices i None) →
    never_falls last (drop i indices) ≡ never_falls next (drop (i + 1) indices)
goes_up indices i last next h e = ap (never_falls last) (drop_more indices i None h) ∙ up_one last next (get_or indices i None) (drop (i + 1) indices) e

pub goes_down : (indices : List (Option ℕ)) (i last : ℕ) → i < length indices → None ≡ step_up last (get_or indices i None) → never_falls last (drop i indices) ≡ false
goes_down indices i last h e = ap (never_falls last) (drop_more indices i None h) ∙ down_one last (get_or indices i None) (drop (i + 1) indices) e

-- in turn, spot by spot
turn_one : (last next : ℕ) (spot : Option Spot) (rest : Spots) → Some next ≡ step_up last (chunk_of spot) → in_turn last (present (spot ∷ rest)) ≡ in_turn next (present rest)
turn_one last next None rest e = ap (λ n. in_turn n (present rest)) (let q : last ≡ next = cc in q)
turn_one last next (Some s) rest e = by_test (nat_le last s.0) e
  where
    by_test : (b : Bool) → Some next ≡ cond b (Some s.0) None → (b && in_turn s.0 (present rest)) ≡ in_turn next (present rest)
    by_test true e = ap (λ n. in_turn n (present rest)) (let q : s.0 ≡ next = cc in q)
    by_test false e = cc

back_one : (last : ℕ) (spot : Option Spot) (rest : Spots) → None ≡ step_up last (chunk_of spot) → in_turn last (present (spot ∷ rest)) ≡ false
back_one last None rest e = cc
back_one last (Some s) rest e = by_test (nat_le last s.0) e
  where
    by_test : (b : Bool) → None ≡ cond b (Some s.0) None → (b && in_turn s.0 (present rest)) ≡ false
    by_test true e = cc
    by_test false e = refl

pub turns_up : (spots : Spots) (i last next : ℕ) → i < length spots → Some next ≡ step_up last (chunk_of (get_or spots i None)) →
    in_turn last (present (drop i spots)) ≡ in_turn next (present (drop (i + 1) spots))
turns_up spots i last next h e = ap (λ (ss : Spots). in_turn last (present ss)) (drop_more spots i None h) ∙ turn_one last next (get_or spots i None) (drop (i + 1) spots) e

pub turns_down : (spots : Spots) (i last : ℕ) → i < length spots → None ≡ step_up last (chunk_of (get_or spots i None)) → in_turn last (present (drop i spots)) ≡ false
turns_down spots i last h e = ap (λ (ss : Spots). in_turn last (present ss)) (drop_more spots i None h) ∙ back_one last (get_or spots i None) (drop (i + 1) spots) e

-- walking: an index that doesn't fall is at or behind the start of the chunk before
from_one : (row : ℕ) (at : Option ℕ) (rest : List (Option ℕ)) → never_falls row (at ∷ rest) ≡ true → IsFrom row at
from_one row None rest t = tt
from_one row (Some index) rest t = leb-true row index (and_parts (nat_le row index) (never_falls index rest) t).0

pub from_here : (indices : List (Option ℕ)) (i row : ℕ) → i < length indices → never_falls row (drop i indices) ≡ true → IsFrom row (get_or indices i None)
from_here indices i row h t = from_one row (get_or indices i None) (drop (i + 1) indices) (ap (never_falls row) (sym (drop_more indices i None h)) ∙ t)

falls_mono : (a b : ℕ) (indices : List (Option ℕ)) → a ≤ b → never_falls b indices ≡ true → never_falls a indices ≡ true
falls_mono a b [] h t = refl
falls_mono a b (None ∷ indices) h t = falls_mono a b indices h t
falls_mono a b (Some index ∷ indices) h t =
    let parts = and_parts (nat_le b index) (never_falls index indices) t in
    let low = leb-true b index parts.0 in
    and_from (nat_le a index) (never_falls index indices) (le-leb a index (omega arith)) parts.1

rest_one : (lens : List ℕ) (chunk : ℕ) (at : Option ℕ) (spot : Option Spot) (rest : List (Option ℕ)) → IsSpotOf lens at spot →
    never_falls (total (take chunk lens)) (at ∷ rest) ≡ true → never_falls (total (take (chunk_after chunk spot) lens)) rest ≡ true
rest_one lens chunk None None rest is t = t
rest_one lens chunk None (Some s) rest is t = absurd is
rest_one lens chunk (Some index) None rest is t = absurd is
rest_one lens chunk (Some index) (Some s) rest is t =
    let parts = and_parts (nat_le (total (take chunk lens)) index) (never_falls index rest) t in
    falls_mono (total (take s.0 lens)) index rest (omega (arith, is.1)) parts.1

pub rest_here : (lens : List ℕ) (indices : List (Option ℕ)) (i chunk : ℕ) (spot : Option Spot) → i < length indices → IsSpotOf lens (get_or indices i None) spot →
    never_falls (total (take chunk lens)) (drop i indices) ≡ true → never_falls (total (take (chunk_after chunk spot) lens)) (drop (i + 1) indices) ≡ true
rest_here lens indices i chunk spot h is t =
    rest_one lens chunk (get_or indices i None) spot (drop (i + 1) indices) is (ap (never_falls (total (take chunk lens))) (sym (drop_more indices i None h)) ∙ t)

-- a chunk that starts at or before a row is one of them
pub walk_within : (lens : List ℕ) (k row : ℕ) → total (take k lens) ≤ row → row < total lens → k < length lens
walk_within lens k row h i = by_order (cases_lt k (length lens))
  where
    by_order : (k < length lens) ⊎ (length lens ≤ k) → k < length lens
    by_order (inl l) = l
    by_order (inr l) = absurd (omega (arith, h, i, total-take_mono lens (length lens) k l, total-take_all lens))

-- an end, as the code reads it
pub end_at : (ends lens : List ℕ) (k : ℕ) → ends ≡ running 0 lens → k ≤ length lens → get_or ends k 0 ≡ total (take k lens)
end_at ends lens k e h = ap (λ (ns : List ℕ). get_or ns k 0) e ∙ get_or-running 0 lens k 0 h ∙ zero-add (total (take k lens))

-- one spot more
pub spots_more : (lens : List ℕ) (indices : List (Option ℕ)) (i : ℕ) (spots : Spots) (spot : Option Spot) → i < length indices → AllZip (IsSpotOf lens) (take i indices) spots →
    IsSpotOf lens (get_or indices i None) spot → AllZip (IsSpotOf lens) (take (i + 1) indices) (spots ++ spot ∷ [])
spots_more lens indices i spots spot h zip is =
    subst (λ (xs : List (Option ℕ)). AllZip (IsSpotOf lens) xs (spots ++ spot ∷ [])) (sym (take_more indices i None h)) (all_zipped_more (IsSpotOf lens) (take i indices) spots (get_or indices i None) spot zip is)

pub cost_more : (indices : List (Option ℕ)) (i before now new bound : ℕ) → i < length indices → now ≤ before + count_by is_some (take i indices) * bound →
    new ≤ now + cond (is_some (get_or indices i None)) 1 0 * bound → new ≤ before + count_by is_some (take (i + 1) indices) * bound
cost_more indices i before now new bound h known step =
    let c = count_by is_some (take i indices) in
    let w = cond (is_some (get_or indices i None)) 1 0 in
    let more : count_by is_some (take (i + 1) indices) ≡ c + w = sum_by_more (λ (o : Option ℕ). cond (is_some o) 1 0) indices i None h in
    let whole : count_by is_some (take (i + 1) indices) * bound ≡ c * bound + w * bound = ap (λ n. n * bound) more ∙ add-mul c w bound in
    omega (arith, whole)

pub cost_within : (indices : List (Option ℕ)) (i before now new bound : ℕ) → i < length indices → now ≤ before + count_by is_some (take i indices) * bound →
    new ≤ now + cond (is_some (get_or indices i None)) 1 0 * bound → new ≤ before + count_by is_some indices * bound
cost_within indices i before now new bound h known step =
    let c = count_by is_some (take i indices) in
    let w = cond (is_some (get_or indices i None)) 1 0 in
    let fewer : c + w ≤ count_by is_some indices = sum_by_more_le (λ (o : Option ℕ). cond (is_some o) 1 0) indices i None h in
    let most : (c + w) * bound ≤ count_by is_some indices * bound = mul-le-mul fewer (le_refl bound) in
    let parts : (c + w) * bound ≡ c * bound + w * bound = add-mul c w bound in
    omega (arith, most, parts)

-- what spots of indices tell
there_rec : (lens : List ℕ) (indices : List (Option ℕ)) (spots : Spots) → AllZip (IsSpotOf lens) indices spots → AllByRecursion (IsThere lens) (present spots)
there_rec lens [] [] zip = tt
there_rec lens [] (spot ∷ spots) zip = absurd zip
there_rec lens (at ∷ indices) [] zip = absurd zip
there_rec lens (None ∷ indices) (None ∷ spots) zip = there_rec lens indices spots zip.1
there_rec lens (None ∷ indices) (Some s ∷ spots) zip = absurd zip.0
there_rec lens (Some index ∷ indices) (None ∷ spots) zip = absurd zip.0
there_rec lens (Some index ∷ indices) (Some s ∷ spots) zip = (zip.0.0, there_rec lens indices spots zip.1)

pub spots_there : (lens : List ℕ) (indices : List (Option ℕ)) (spots : Spots) → AllZip (IsSpotOf lens) indices spots → All (IsThere lens) (present spots)
spots_there lens indices spots zip = All-from_recursion (IsThere lens) (present spots) (there_rec lens indices spots zip)

pub spots_rows : (lens : List ℕ) (indices : List (Option ℕ)) (spots : Spots) → AllZip (IsSpotOf lens) indices spots → rows_of lens spots ≡ indices
spots_rows lens [] [] zip = refl
spots_rows lens [] (spot ∷ spots) zip = absurd zip
spots_rows lens (at ∷ indices) [] zip = absurd zip
spots_rows lens (None ∷ indices) (None ∷ spots) zip = ap (λ (rs : List (Option ℕ)). None ∷ rs) (spots_rows lens indices spots zip.1)
spots_rows lens (None ∷ indices) (Some s ∷ spots) zip = absurd zip.0
spots_rows lens (Some index ∷ indices) (None ∷ spots) zip = absurd zip.0
spots_rows lens (Some index ∷ indices) (Some s ∷ spots) zip =
    ap (λ (r : ℕ). Some r ∷ rows_of lens spots) zip.0.1 ∙ ap (λ (rs : List (Option ℕ)). Some index ∷ rs) (spots_rows lens indices spots zip.1)

pub spots_present : (lens : List ℕ) (indices : List (Option ℕ)) (spots : Spots) → AllZip (IsSpotOf lens) indices spots → list_all is_some indices ≡ true → list_all is_some spots ≡ true
spots_present lens [] [] zip t = refl
spots_present lens [] (spot ∷ spots) zip t = absurd zip
spots_present lens (at ∷ indices) [] zip t = absurd zip
spots_present lens (None ∷ indices) (spot ∷ spots) zip t = cc
spots_present lens (Some index ∷ indices) (None ∷ spots) zip t = absurd zip.0
spots_present lens (Some index ∷ indices) (Some s ∷ spots) zip t = spots_present lens indices spots zip.1 t

-- rows that don't fall are rows of chunks that don't
later : (lens : List ℕ) (k row : ℕ) (s : Spot) → IsThere lens s → row ≤ spot_row lens s → total (take k lens) ≤ row → k ≤ s.0
later lens k row s there h low = by_order (cases_lt s.0 k)
  where
    by_order : (s.0 < k) ⊎ (k ≤ s.0) → k ≤ s.0
    by_order (inr l) = l
    by_order (inl l) = absurd (omega (arith, there.1, total-take_more lens s.0 0 there.0, total-take_mono lens (s.0 + 1) k (omega arith)))

pub spots_turn : (lens : List ℕ) (k row : ℕ) (indices : List (Option ℕ)) (spots : Spots) → AllZip (IsSpotOf lens) indices spots → total (take k lens) ≤ row → never_falls row indices ≡ true →
    in_turn k (present spots) ≡ true
spots_turn lens k row [] [] zip low t = refl
spots_turn lens k row [] (spot ∷ spots) zip low t = absurd zip
spots_turn lens k row (at ∷ indices) [] zip low t = absurd zip
spots_turn lens k row (None ∷ indices) (None ∷ spots) zip low t = spots_turn lens k row indices spots zip.1 low t
spots_turn lens k row (None ∷ indices) (Some s ∷ spots) zip low t = absurd zip.0
spots_turn lens k row (Some index ∷ indices) (None ∷ spots) zip low t = absurd zip.0
spots_turn lens k row (Some index ∷ indices) (Some s ∷ spots) zip low t =
    let parts = and_parts (nat_le row index) (never_falls index indices) t in
    let up = leb-true row index parts.0 in
    let after = later lens k row s zip.0.0 (omega (arith, zip.0.1)) low in
    and_from (nat_le k s.0) (in_turn s.0 (present spots)) (le-leb k s.0 after) (spots_turn lens s.0 index indices spots zip.1 (omega (arith, zip.0.1)) parts.1)

-- buckets
pub empty_more : (k n : ℕ) → dealt {X = ℕ} k (n + 1) [] ≡ dealt k n [] ++ [] ∷ []
empty_more k zero = refl
empty_more k (suc n) =
    let e : suc n + 1 ≡ suc (n + 1) = omega arith in
    ap (λ m. dealt {X = ℕ} k m []) e ∙ ap (λ (bs : List (List ℕ)). [] ∷ bs) (empty_more (k + 1) n)

present-append : (xs ys : Spots) → present (xs ++ ys) ≡ present xs ++ present ys
present-append [] ys = refl
present-append (None ∷ xs) ys = present-append xs ys
present-append (Some s ∷ xs) ys = ap (λ (ss : List Spot). s ∷ ss) (present-append xs ys)

present_more : (spots : Spots) (i : ℕ) → i < length spots → present (take (i + 1) spots) ≡ present (take i spots) ++ present (get_or spots i None ∷ [])
present_more spots i h = ap present (take_more spots i None h) ∙ present-append (take i spots) (get_or spots i None ∷ [])

present_split : (spots : Spots) (i : ℕ) (s : Spot) → i < length spots → get_or spots i None ≡ Some s → present spots ≡ present (take i spots) ++ s ∷ present (drop (i + 1) spots)
present_split spots i s h e =
    ap present (sym (take-append-drop i spots) ∙ ap (λ (ss : Spots). take i spots ++ ss) (drop_more spots i None h ∙ ap (λ (spot : Option Spot). spot ∷ drop (i + 1) spots) e))
    ∙ present-append (take i spots) (Some s ∷ drop (i + 1) spots)

pub chunk_below : (n : ℕ) (spots : Spots) (i : ℕ) → All (λ s. s.0 < n) (present spots) → i < length spots → IsChunkBelow n (get_or spots i None)
chunk_below n [] i all h = absurd (omega arith)
chunk_below n (None ∷ spots) zero all h = tt
chunk_below n (Some s ∷ spots) zero all h = all 0 s (omega arith)
chunk_below n (None ∷ spots) (suc i) all h = chunk_below n spots i all (omega arith)
chunk_below n (Some s ∷ spots) (suc i) all h = chunk_below n spots i (λ j d below. all (suc j) d (omega arith)) (omega arith)

pub spot_dealt : (n : ℕ) (spots : Spots) (i : ℕ) → i < length spots → IsChunkBelow n (get_or spots i None) →
    with_spot (dealt 0 n (present (take i spots))) (get_or spots i None) ≡ dealt 0 n (present (take (i + 1) spots))
spot_dealt n spots i h below = by_spot (get_or spots i None) below ∙ ap (dealt 0 n) (sym (present_more spots i h))
  where
    by_spot : (spot : Option Spot) → IsChunkBelow n spot → with_spot (dealt 0 n (present (take i spots))) spot ≡ dealt 0 n (present (take i spots) ++ present (spot ∷ []))
    by_spot None b = ap (dealt 0 n) (sym (append-nil (present (take i spots))))
    by_spot (Some s) b = dealt_push 0 n s.0 (present (take i spots)) s (omega arith) b

-- the places of each bucket are of its chunk
pub dealt_below : (lens : List ℕ) (spots : List Spot) → All (IsThere lens) spots → AllZip AreBelow lens (dealt 0 (length lens) spots)
dealt_below lens spots there =
    zip_dealt (λ (n place : ℕ). place < n) 0 lens spots
    (λ i d h j below e. let s = get_or spots i d in
    let same : s.0 ≡ j = omega arith in
    subst (λ c. s.1 < get_or lens c 0) same (there i d h).1)

-- rows of spots that are in turn
abbrev bare : List ℕ → List ℕ
bare places = places

some_rows : (lens : List ℕ) (spots : Spots) → list_all is_some spots ≡ true → map Some (flat_map (part_rows bare refl (λ a b. refl) lens) (present spots)) ≡ rows_of lens spots
some_rows lens [] t = refl
some_rows lens (None ∷ spots) t = cc
some_rows lens (Some s ∷ spots) t =
    ap (map Some) (flat_map-cons (part_rows bare refl (λ a b. refl) lens) s (present spots))
    ∙ ap (λ (rs : List (Option ℕ)). Some (spot_row lens s) ∷ rs) (some_rows lens spots t)

pub in_turn_rows : (lens : List ℕ) (spots : Spots) (buckets : List (List ℕ)) → length lens ≡ length buckets → buckets ≡ dealt 0 (length buckets) (present spots) →
    All (λ s. s.0 < length buckets) (present spots) → (list_all is_some spots && in_turn 0 (present spots)) ≡ true → in_order (bucket_rows lens buckets) None ≡ rows_of lens spots
in_turn_rows lens spots buckets e is below t =
    let parts = and_parts (list_all is_some spots) (in_turn 0 (present spots)) t in
    let same : buckets ≡ dealt 0 (length lens) (present spots) = is ∙ ap (λ n. dealt 0 n (present spots)) (sym e) in
    ap (λ (bs : List (List ℕ)). map Some (bucket_rows lens bs)) same
    ∙ ap (map Some) (turned bare refl (λ a b. refl) lens 0 (present spots) parts.1 (λ i d h. omega (arith, below i d h)))
    ∙ some_rows lens spots parts.0

-- the next place of each chunk
abbrev pub TakeCounts : ℕ → List Spot → List Spot → List ℕ → Type 0
TakeCounts n all xs next = Counts bare refl (λ a b. refl) n all xs next

weight_is : (spots : List Spot) → weight bare refl (λ a b. refl) spots ≡ length spots
weight_is [] = refl
weight_is (s ∷ spots) = omega (arith, weight_is spots)

present_few : (spots : Spots) → length (present spots) ≤ length spots
present_few [] = omega arith
present_few (None ∷ spots) = omega (arith, present_few spots)
present_few (Some s ∷ spots) = omega (arith, present_few spots)

pub fits_in : (n : ℕ) (spots : Spots) → total (map length (dealt 0 n (present spots))) ≤ length spots
fits_in n spots = omega (arith, widths_within bare refl (λ a b. refl) 0 n (present spots), weight_is (present spots), present_few spots)

pub counts_none : (n : ℕ) (all : List Spot) (next : List ℕ) → length next ≡ n → ((k : ℕ) → k < n → get_or next k 0 ≡ total (take k (map length (dealt 0 n all)))) → TakeCounts n all [] next
counts_none n all next long each = record { long = long; each = λ k h. omega (arith, each k h) }

module _ (spots : Spots) (i n : ℕ) (next : List ℕ) (h : i < length spots) (below : IsChunkBelow n (get_or spots i None))
    (counts : TakeCounts n (present spots) (present (take i spots)) next) where
  pub room : length spots < 2 ^ 64 → HasRoom next (get_or spots i None)
  room fits = by_spot (get_or spots i None) refl below
    where
      by_spot : (spot : Option Spot) → get_or spots i None ≡ spot → IsChunkBelow n spot → HasRoom next spot
      by_spot None e b = tt
      by_spot (Some s) e b =
          let xs = present (take i spots) in
          let ys = present (drop (i + 1) spots) in
          let whole = present_split spots i s h e in
          let now = subst (λ (all : List Spot). TakeCounts n all xs next) whole counts in
          (omega (arith, counts.long), omega (arith, counts_within bare refl (λ a b. refl) n xs s ys next b now, weight_is (xs ++ s ∷ ys), ap length whole, present_few spots))

  pub counts_next : TakeCounts n (present spots) (present (take (i + 1) spots)) (counted next (get_or spots i None))
  counts_next =
      subst (λ (xs : List Spot). TakeCounts n (present spots) xs (counted next (get_or spots i None))) (sym (present_more spots i h)) (by_spot (get_or spots i None) below)
    where
      by_spot : (spot : Option Spot) → IsChunkBelow n spot → TakeCounts n (present spots) (present (take i spots) ++ present (spot ∷ [])) (counted next spot)
      by_spot None b = subst (λ (xs : List Spot). TakeCounts n (present spots) xs next) (sym (append-nil (present (take i spots)))) counts
      by_spot (Some s) b = counts_more bare refl (λ a b. refl) n (present spots) (present (take i spots)) s next b counts

  pub row_next : (lens : List ℕ) → length lens ≡ n → option_and_then (slice_get (bucket_rows lens (dealt 0 n (present spots)))) (number_of next (get_or spots i None)) ≡ row_of lens (get_or spots i None)
  row_next lens long = by_spot (get_or spots i None) refl below
    where
      seam : (front : List ℕ) (row : ℕ) (back : List ℕ) → slice_get (front ++ row ∷ back) (length front) ≡ Some row
      seam front row back =
          slice_get-get_or (front ++ row ∷ back) (length front) 0 (omega (arith, length-append front (row ∷ back))) ∙ ap (λ (r : ℕ). Some r) (get_or-append_seam front row back 0)

      by_spot : (spot : Option Spot) → get_or spots i None ≡ spot → IsChunkBelow n spot →
          option_and_then (slice_get (bucket_rows lens (dealt 0 n (present spots)))) (number_of next spot) ≡ row_of lens spot
      by_spot None e b = refl
      by_spot (Some s) e b =
          let all = present spots in
          let xs = present (take i spots) in
          let ys = present (drop (i + 1) spots) in
          let whole = present_split spots i s h e in
          let own : get_or (dealt 0 n all) s.0 [] ≡ bucket_of s.0 xs ++ s.1 ∷ bucket_of s.0 ys =
          get_or-dealt 0 n s.0 all [] b ∙ ap (λ k. bucket_of k all) (zero-add s.0) ∙ ap (bucket_of s.0) whole
          ∙ bucket-append s.0 xs (s ∷ ys) ∙ ap (λ (r : List ℕ). bucket_of s.0 xs ++ r) (bucket_yes s.0 s ys refl) in
          let (front, (back, (rows, at))) =
          split bare refl (λ a b. refl) 0 lens (dealt 0 n all) s.0 (bucket_of s.0 xs) s.1 (bucket_of s.0 ys) (length-dealt 0 n all ∙ sym long) (omega (arith, b, long)) own in
          let place : get_or next s.0 0 ≡ length front = omega (arith, counts.each s.0 b, at) in
          ap (slice_get (bucket_rows lens (dealt 0 n all))) place
          ∙ ap (λ (rs : List ℕ). slice_get rs (length front)) rows
          ∙ seam front (0 + total (take s.0 lens) + s.1) back
          ∙ ap (λ (t : ℕ). Some (t + s.1)) (zero-add (total (take s.0 lens)))

pub order_more : (lens rows : List ℕ) (spots : Spots) (i : ℕ) (order : List (Option ℕ)) (place : Option ℕ) → i < length spots → in_order rows (Some order) ≡ rows_of lens (take i spots) →
    option_and_then (slice_get rows) place ≡ row_of lens (get_or spots i None) → in_order rows (Some (order ++ place ∷ [])) ≡ rows_of lens (take (i + 1) spots)
order_more lens rows spots i order place h known step =
    map_push (option_and_then (slice_get rows)) order place
    ∙ ap (λ (rs : List (Option ℕ)). rs ++ option_and_then (slice_get rows) place ∷ []) known
    ∙ ap (λ (r : Option ℕ). rows_of lens (take i spots) ++ r ∷ []) step
    ∙ sym (ap (rows_of lens) (take_more spots i None h) ∙ map_push (row_of lens) (take i spots) (get_or spots i None))

-- where buckets begin
pub start_more : (ws starts : List ℕ) (i sum : ℕ) → length starts ≡ i → ((k : ℕ) → k < i → get_or starts k 0 ≡ total (take k ws)) → sum ≡ total (take i ws) →
    (k : ℕ) → k < i + 1 → get_or (starts ++ sum ∷ []) k 0 ≡ total (take k ws)
start_more ws starts i sum long known is k below = elim (cases_eq k i) as (λ _. get_or (starts ++ sum ∷ []) k 0 ≡ total (take k ws)) [
  | inl e ↦ ap (λ j. get_or (starts ++ sum ∷ []) j 0) (e ∙ sym long) ∙ get_or-append_seam starts sum [] 0 ∙ is ∙ ap (λ j. total (take j ws)) (sym e)
  | inr ne ↦ get_or_append_left starts (sum ∷ []) 0 k (omega arith) ∙ known k (omega arith)
]

pub width_at : (buckets : List (List ℕ)) (i : ℕ) (d : List ℕ) → i < length buckets → get_or (map length buckets) i 0 ≡ length (get_or buckets i d)
width_at [] i d h = absurd (omega arith)
width_at (b ∷ buckets) zero d h = refl
width_at (b ∷ buckets) (suc i) d h = width_at buckets i d (omega arith)
