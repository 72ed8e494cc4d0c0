-- A part has a first fault exactly where it isn't clean.
use Rattle.std.proofs.Common.{◌≡◌, ◌⊎◌, inl, inr, ◌↔◌, ℕ, suc, ◌≤◌, ◌<◌, ◌^◌, List, [], ◌∷◌, map, length, take, get_or, refl, sym, ◌∙◌, ap, subst, arith, Option, Some, None, Bool, true, false, IsTrue}
use Rattle.std.specs.List.{All, AllByRecursion}
use Rattle.std.proofs.lemmas.Bool.{false≢true, cases_lt}
use Rattle.std.proofs.lemmas.List.{length-take-le, get_or-take}
use Rattle.std.proofs.lemmas.List.Elements.{All-from_recursion, recursion_from_All}
use Rattle.vx_rows.specs.Types.{AlikeTypes}
use Rattle.vx_rows.specs.Fits.{row_fits}
use Rattle.vx_rows.specs.declared.dtype.DType.{DType}
use Rattle.vx_rows.specs.declared.value.Value.{Value}
use Rattle.vx_rows.specs.declared.error.ColumnError.{ColumnError}
use Rattle.vx_rows.specs.declared.error.Rule.{Rule}
use Rattle.vx_rows.specs.declared.error.Rule.TheVariants.{RowType, TooLong, ChunkType}
use Rattle.vx_base.specs.Numbers.{is_integer}
use Rattle.vx_chunks.specs.Bounds.{total}
use Rattle.vx_lanes.specs.Rules.{IsFirstBroken, layout_fault}
use Rattle.vx_lanes.specs.Layouts.{layout}
use Rattle.vx_job.specs.Kinds.{is_bool_or_integer, AreAlike}
use Rattle.vx_job.specs.Faults.{Fault, IsFirstFault, exceptions_fault, interleaved_fault, all_bool_or_integer}
use Rattle.vx_job.specs.Faults.Fault.{Unsupported, Broken}
use Rattle.vx_job.specs.Parts.{part_type, part_len, IsPartOf, IsOwnFault, IsCleanLayer, IsClean, children, OwnFault, At, FaultAt, IsFirstFault as IsFirstFaultAmong}
use Rattle.vx_job.specs.declared.part.Part.{Part, out-Part}
use Rattle.vx_job.specs.declared.part.Part.TheOpen.{Part-F}
use Rattle.vx_job.specs.declared.part.Part.TheFolds.{every_here-Part, every_held-Part, map-Part, ind-Part}
use Rattle.vx_job.specs.declared.part.Part.TheViews.{roll-Part, out-roll-Part}
use Rattle.vx_job.specs.Laws.{IsFaulty}
use Rattle.vx_job.proofs.Decided.{Decided, types_decided, alike_decided, all_alike_decided, all_decided}
use Rattle.vx_job.proofs.Parts.{clean_made}

-- ---- what is within a clean part

abbrev Known : Type 0
Known = (p : Part) × IsClean p

known_clean : (es : List Known) → AllByRecursion IsClean (map (λ e. e.0) es)
known_clean [] = tt
known_clean (e ∷ es) = (e.1, known_clean es)

children_known : (y : Part-F Known) → AllByRecursion IsClean (children (map-Part Known Part (λ e. e.0) y))
children_known (Part-F.Flat c) = tt
children_known (Part-F.Constant t r n) = tt
children_known (Part-F.Chunked t es) = known_clean es
children_known (Part-F.Lanes e n o lo is vs) = known_clean (e ∷ [])
children_known (Part-F.Excepted b o is v co) = known_clean (b ∷ v ∷ [])
children_known (Part-F.Interleaved es ai ri) = known_clean es

clean_within : (p : Part) → IsClean p → All IsClean (children (out-Part p))
clean_within p s =
    let held = every_held-Part IsCleanLayer p s in
    All-from_recursion IsClean (children (out-Part p)) (subst (AllByRecursion IsClean) (ap children held.1) (children_known held.0))

-- ---- a part isn't both clean and faulty

-- a layer has one first fault at most, and none where it meets its rules

-- the fault that breaks a rule
abbrev broken : Option Rule → Option Fault
broken None = None
broken (Some rule) = Some (Broken rule)

first_once : (b : Bool) (Broke : Option Rule → Type 0) → ((r s : Option Rule) → Broke r → Broke s → s ≡ r) → (f g : Option Fault) → IsFirstFault b Broke f → IsFirstFault b Broke g → g ≡ f
first_once false Broke once f g h k = k ∙ sym h
first_once true Broke once None None h k = refl
first_once true Broke once None (Some Unsupported) h k = absurd k
first_once true Broke once None (Some (Broken s)) h k = ap broken (once None (Some s) h k)
first_once true Broke once (Some Unsupported) g h k = absurd h
first_once true Broke once (Some (Broken r)) None h k = ap broken (once (Some r) None h k)
first_once true Broke once (Some (Broken r)) (Some Unsupported) h k = absurd k
first_once true Broke once (Some (Broken r)) (Some (Broken s)) h k = ap broken (once (Some r) (Some s) h k)

-- a rule that is told by whether something holds
abbrev ToldBy : Type 0 → (Bool → Option Rule) → Option Rule → Type 0
ToldBy A by rule = (alike : Bool) × (IsTrue alike ↔ A) × (by alike ≡ rule)

told_once : (A : Type 0) (by : Bool → Option Rule) (r s : Option Rule) → ToldBy A by r → ToldBy A by s → s ≡ r
told_once A by r s (a, f, e) (b, g, d) = sym d ∙ sym (ap by (same a b (λ h. g.1 (f.0 h)) (λ h. f.1 (g.0 h)))) ∙ e
  where
    same : (a b : Bool) → (IsTrue a → IsTrue b) → (IsTrue b → IsTrue a) → a ≡ b
    same true true h k = refl
    same true false h k = absurd (false≢true (h refl))
    same false true h k = absurd (false≢true (k refl))
    same false false h k = refl

constant_once : (t : DType) (r : Option Value) (n : ℕ) (f g : Option Fault) → IsOwnFault (Part-F.Constant t r n) f → IsOwnFault (Part-F.Constant t r n) g → g ≡ f
constant_once t r n None None h k = refl
constant_once t r n None (Some g) h k = absurd (false≢true (sym k.1 ∙ h))
constant_once t r n (Some f) None h k = absurd (false≢true (sym h.1 ∙ k))
constant_once t r n (Some f) (Some g) h k = ap Some (k.0 ∙ sym h.0)

chunks_once : (t : DType) (ps : List Part) (f g : Option Fault) → IsOwnFault (Part-F.Chunked t ps) f → IsOwnFault (Part-F.Chunked t ps) g → g ≡ f
chunks_once t ps None None h k = refl
chunks_once t ps None (Some g) h (inl long) = let a = long.1 in let b = h.0 in absurd (omega arith)
chunks_once t ps None (Some g) h (inr typed) = absurd (typed.2 h.1)
chunks_once t ps (Some f) None (inl long) k = let a = long.1 in let b = k.0 in absurd (omega arith)
chunks_once t ps (Some f) None (inr typed) k = absurd (typed.2 k.1)
chunks_once t ps (Some f) (Some g) (inl h) (inl k) = ap Some (k.0 ∙ sym h.0)
chunks_once t ps (Some f) (Some g) (inl h) (inr k) = let a = h.1 in let b = k.1 in absurd (omega arith)
chunks_once t ps (Some f) (Some g) (inr h) (inl k) = let a = h.1 in let b = k.1 in absurd (omega arith)
chunks_once t ps (Some f) (Some g) (inr h) (inr k) = ap Some (k.0 ∙ sym h.0)

own_once : (y : Part-F Part) (f g : Option Fault) → IsOwnFault y f → IsOwnFault y g → g ≡ f
own_once (Part-F.Flat c) f g h k = k ∙ sym h
own_once (Part-F.Constant t r n) f g h k = constant_once t r n f g h k
own_once (Part-F.Chunked t ps) f g h k = chunks_once t ps f g h k
own_once (Part-F.Lanes p n o lo is vs) f g h k =
    let l = layout (part_len p) n o lo is vs in
    first_once (is_integer (part_type p)) (IsFirstBroken (part_type p) l) (told_once (AlikeTypes vs.dtype (part_type p)) (layout_fault l)) f g h k
own_once (Part-F.Excepted b o is v co) f g h k =
    let by : Bool → Option Rule = λ alike. exceptions_fault alike (part_type b) (part_len b) o is (part_type v) (part_len v) co in
    first_once (is_bool_or_integer (part_type b)) (ToldBy (AlikeTypes (part_type v) (part_type b)) by) (told_once (AlikeTypes (part_type v) (part_type b)) by) f g h k
own_once (Part-F.Interleaved ps ai ri) f g h k =
    let by : Bool → Option Rule = λ alike. interleaved_fault alike (map part_len ps) ai ri in
    first_once (all_bool_or_integer (map part_type ps)) (ToldBy (AreAlike (map part_type ps)) by) (told_once (AreAlike (map part_type ps)) by) f g h k

own_not_clean : (f : Fault) (y : Part-F Part) → IsOwnFault y (Some f) → IsOwnFault y None → ⊥
own_not_clean f y h s = apart (own_once y (Some f) None h s)
  where
    apart : None ≡ Some f → ⊥
    apart e = cc

pub no_fault : (path : List ℕ) (f : Fault) (p : Part) → FaultAt path f p → IsClean p → ⊥
no_fault [] f p h s = own_not_clean f (out-Part p) h.1 (every_here-Part IsCleanLayer p s)
no_fault (k ∷ path) f p h s = no_fault path f (get_or (children (out-Part p)) k p) (h.2 p) (clean_within p s k p h.0)

pub no_fault_among : (ps : List Part) (e : ColumnError) → All IsClean ps → IsFirstFaultAmong ps e → ⊥
no_fault_among [] e s (k, path, f, same, at) = let short = at.0 in omega arith
no_fault_among (p ∷ ps) e s (k, path, f, same, at) = no_fault path f (get_or (p ∷ ps) k p) (at.2 p) (s k p at.0)

-- ---- a first fault is the only one

abbrev Same : List ℕ → Fault → List ℕ → Fault → Type 0
Same path f other g = (other ≡ path) × (g ≡ f)

-- of two parts that are the first with a fault, neither stands before the other
not_before : (k j : ℕ) (path : List ℕ) (f : Fault) (ps : List Part) (p : Part) → k < j → j < length ps → At (FaultAt path f) k ps → All IsClean (take j ps) → ⊥
not_before k j path f ps p h short at clean =
    let stands : k < length (take j ps) = omega (arith, length-take-le j ps) in
    no_fault path f (get_or ps k p) (at.2 p) (subst IsClean (get_or-take j ps k p h) (clean k p stands))

pub one_fault : (p : Part) (path other : List ℕ) (f g : Fault) → FaultAt path f p → FaultAt other g p → Same path f other g
one_fault p [] [] f g h k = (refl, some (own_once (out-Part p) (Some f) (Some g) h.1 k.1))
  where
    some : Some g ≡ Some f → g ≡ f
    some e = cc
one_fault p [] (j ∷ other) f g h k = absurd (no_fault other g (get_or (children (out-Part p)) j p) (k.2 p) (h.0 j p k.0))
one_fault p (i ∷ path) [] f g h k = absurd (no_fault path f (get_or (children (out-Part p)) i p) (h.2 p) (k.0 i p h.0))
one_fault p (i ∷ path) (j ∷ other) f g h k = by_order (cases_lt i j) (cases_lt j i) (λ b. one_fault (get_or (children (out-Part p)) i p) path other f g (h.2 p) b)
  where
    longer : j ≡ i → Same path f other g → Same (i ∷ path) f (j ∷ other) g
    longer e (same, fault) = (ap (λ n. n ∷ other) e ∙ ap (λ (xs : List ℕ). i ∷ xs) same, fault)

    under : j ≡ i → (FaultAt other g (get_or (children (out-Part p)) i p) → Same path f other g) → Same path f other g
    under e within = within (subst (λ n. FaultAt other g (get_or (children (out-Part p)) n p)) e (k.2 p))

    by_order : (i < j) ⊎ (j ≤ i) → (j < i) ⊎ (i ≤ j) → (FaultAt other g (get_or (children (out-Part p)) i p) → Same path f other g) → Same (i ∷ path) f (j ∷ other) g
    by_order (inl less) o within = absurd (not_before i j path f (children (out-Part p)) p less k.0 h k.1)
    by_order (inr a) (inl less) within = absurd (not_before j i other g (children (out-Part p)) p less h.0 k h.1)
    by_order (inr a) (inr b) within = let e : j ≡ i = omega arith in longer e (under e within)

-- ---- a part is clean, or it has a first fault

-- a layer over clean parts meets its rules, or has a fault
abbrev IsToldOf : (Option Fault → Type 0) → Type 0
IsToldOf First = First None ⊎ ((f : Fault) × First (Some f))

told_first : (b : Bool) (Broke : Option Rule → Type 0) → ((rule : Option Rule) × Broke rule) → IsToldOf (IsFirstFault b Broke)
told_first false Broke first = inr (Unsupported, refl)
told_first true Broke (None, h) = inl h
told_first true Broke (Some rule, h) = inr (Broken rule, h)

told_by : (A : Type 0) (by : Bool → Option Rule) → Decided A → (rule : Option Rule) × ToldBy A by rule
told_by A by (inl h) = (by true, (true, (λ e. h, λ x. refl), refl))
told_by A by (inr apart) = (by false, (false, (λ e. absurd (false≢true e), λ x. absurd (apart x)), refl))

own_told : (y : Part-F Part) → IsToldOf (IsOwnFault y)
own_told (Part-F.Flat c) = inl refl
own_told (Part-F.Constant t r n) = by_fit (row_fits t r) refl
  where
    by_fit : (b : Bool) → row_fits t r ≡ b → IsToldOf (IsOwnFault (Part-F.Constant t r n))
    by_fit true e = inl e
    by_fit false e = inr (Broken RowType, (refl, e))
own_told (Part-F.Chunked t ps) = by_length (cases_lt (total (map part_len ps)) (2 ^ 64))
  where
    by_types : total (map part_len ps) < 2 ^ 64 → AllByRecursion (IsPartOf t) ps ⊎ (AllByRecursion (IsPartOf t) ps → ⊥) → IsToldOf (IsOwnFault (Part-F.Chunked t ps))
    by_types fits (inl same) = inl (fits, All-from_recursion (IsPartOf t) ps same)
    by_types fits (inr other) = inr (Broken ChunkType, inr (refl, fits, λ all. other (recursion_from_All (IsPartOf t) ps all)))

    by_length : (total (map part_len ps) < 2 ^ 64) ⊎ (2 ^ 64 ≤ total (map part_len ps)) → IsToldOf (IsOwnFault (Part-F.Chunked t ps))
    by_length (inl fits) = by_types fits (all_decided (IsPartOf t) (λ p. types_decided (part_type p) t) ps)
    by_length (inr long) = inr (Broken TooLong, inl (refl, long))
own_told (Part-F.Lanes p n o lo is vs) =
    let l = layout (part_len p) n o lo is vs in
    told_first (is_integer (part_type p)) (IsFirstBroken (part_type p) l) (told_by (AlikeTypes vs.dtype (part_type p)) (layout_fault l) (alike_decided vs.dtype (part_type p)))
own_told (Part-F.Excepted b o is v co) =
    let by : Bool → Option Rule = λ alike. exceptions_fault alike (part_type b) (part_len b) o is (part_type v) (part_len v) co in
    told_first (is_bool_or_integer (part_type b)) (ToldBy (AlikeTypes (part_type v) (part_type b)) by) (told_by (AlikeTypes (part_type v) (part_type b)) by (alike_decided (part_type v) (part_type b)))
own_told (Part-F.Interleaved ps ai ri) =
    let by : Bool → Option Rule = λ alike. interleaved_fault alike (map part_len ps) ai ri in
    told_first (all_bool_or_integer (map part_type ps)) (ToldBy (AreAlike (map part_type ps)) by) (told_by (AreAlike (map part_type ps)) by (all_alike_decided (map part_type ps)))

abbrev IsJudged : Part → Type 0
IsJudged p = IsClean p ⊎ IsFaulty p

-- the first of the parts that has a fault
abbrev FaultAmong : List Part → Type 0
FaultAmong ps = (k : ℕ) × (path : List ℕ) × (f : Fault) × At (FaultAt path f) k ps

at_front : (F : Part → Type 0) (p : Part) (ps : List Part) → F p → At F 0 (p ∷ ps)
at_front F p ps f = (omega arith, All-from_recursion IsClean [] tt, λ d. f)

at_behind : (F : Part → Type 0) (k : ℕ) (p : Part) (ps : List Part) → IsClean p → At F k ps → At F (suc k) (p ∷ ps)
at_behind F k p ps clean at =
    let short = at.0 in
    (omega arith, All-from_recursion IsClean (p ∷ take k ps) (clean, recursion_from_All IsClean (take k ps) at.1), λ d. at.2 d)

abbrev Judged : Type 0
Judged = (p : Part) × IsJudged p

parts_judged : (es : List Judged) → AllByRecursion IsClean (map (λ e. e.0) es) ⊎ FaultAmong (map (λ e. e.0) es)
parts_judged [] = inl tt
parts_judged (e ∷ es) = both e.1 (parts_judged es)
  where
    both : IsJudged e.0 → AllByRecursion IsClean (map (λ e. e.0) es) ⊎ FaultAmong (map (λ e. e.0) es)
        → AllByRecursion IsClean (map (λ e. e.0) (e ∷ es)) ⊎ FaultAmong (map (λ e. e.0) (e ∷ es))
    both (inl clean) (inl all) = inl (clean, all)
    both (inl clean) (inr (k, path, f, at)) = inr (suc k, path, f, at_behind (FaultAt path f) k e.0 (map (λ e. e.0) es) clean at)
    both (inr (path, f, fault)) all = inr (0, path, f, at_front (FaultAt path f) e.0 (map (λ e. e.0) es) fault)

children_judged : (y : Part-F Judged) → AllByRecursion IsClean (children (map-Part Judged Part (λ e. e.0) y)) ⊎ FaultAmong (children (map-Part Judged Part (λ e. e.0) y))
children_judged (Part-F.Flat c) = inl tt
children_judged (Part-F.Constant t r n) = inl tt
children_judged (Part-F.Chunked t es) = parts_judged es
children_judged (Part-F.Lanes e n o lo is vs) = parts_judged (e ∷ [])
children_judged (Part-F.Excepted b o is v co) = parts_judged (b ∷ v ∷ [])
children_judged (Part-F.Interleaved es ai ri) = parts_judged es

layer_judged : (y : Part-F Part) → AllByRecursion IsClean (children y) ⊎ FaultAmong (children y) → IsToldOf (IsOwnFault y) → IsJudged (roll-Part y)
layer_judged y (inr (k, path, f, at)) own = inr (k ∷ path, f, subst (λ z. At (FaultAt path f) k (children z)) (sym (out-roll-Part y)) at)
layer_judged y (inl clean) (inl h) = inl (clean_made y clean h)
layer_judged y (inl clean) (inr (f, h)) = inr ([], f, subst (OwnFault f) (sym (out-roll-Part y)) (All-from_recursion IsClean (children y) clean, h))

pub judged : (p : Part) → IsClean p ⊎ IsFaulty p
judged = ind-Part IsJudged (λ x y e. let z : Part-F Part = map-Part Judged Part (λ e. e.0) y in subst (λ l. IsJudged (roll-Part l)) e (layer_judged z (children_judged y) (own_told z)))
