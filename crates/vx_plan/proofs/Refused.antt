-- Why parts aren't opened: the faults of the parts, by those that their columns tell.
use Rattle.std.proofs.Common.{◌≡◌, ◌⊎◌, inl, inr, ℕ, ◌+◌, ◌≤◌, ◌<◌, ◌^◌, List, [], ◌∷◌, ◌++◌, map, length, take, drop, get_or, refl, sym, ◌∙◌, ap, subst, arith, Option, Some}
use Rattle.std.specs.List.{All, AllByRecursion}
use Rattle.std.proofs.lemmas.List.{length-append, length-take-le, take_at, take_more, drop_more, take-append-drop}
use Rattle.std.proofs.lemmas.List.Elements.{All-from_recursion, recursion_from_All}
use Rattle.vx_rows.specs.Fits.{row_fits}
use Rattle.vx_base.specs.Column.{Flat, RefusesMisfit}
use Rattle.vx_rows.specs.declared.dtype.DType.{DType}
use Rattle.vx_rows.specs.declared.value.Value.{Value}
use Rattle.vx_rows.specs.declared.error.ColumnError.{ColumnError}
use Rattle.vx_rows.specs.declared.error.ColumnError.TheVariants.{OutOfMemory}
use Rattle.vx_rows.specs.declared.error.Rule.TheVariants.{RowType, TooLong, ChunkType}
use Rattle.vx_chunks.specs.Bounds.{total}
use Rattle.vx_job.specs.Faults.{Fault, error_at, MadeCause, IsLanesFault, IsExceptionsFault, IsInterleaveFault}
use Rattle.vx_job.specs.Faults.Fault.{Unsupported, Broken}
use Rattle.vx_column.specs.Columns.{type_of, len_of, IsOf, ChunksCause}
use Rattle.vx_column.specs.declared.column.Column.{Column}
use Rattle.vx_job.specs.Parts.{part_type, part_len, part_open_cost, open_cost, IsPartOf, IsOwnFault, IsClean, children, OwnFault, At, FaultAt, IsFaultOf, IsFaultUnder, IsFaultIn, Within}
use Rattle.vx_plan.specs.Opened.{IsOpened, AreOpened}
use Rattle.vx_job.specs.declared.part.Part.{Part, out-Part}
use Rattle.vx_job.specs.declared.part.Part.TheOpen.{Part-F}
use Rattle.vx_job.specs.declared.part.Part.TheVariants.{outs-Constant, outs-Chunked, outs-Lanes, outs-Excepted, outs-Interleaved}
use Rattle.vx_job.specs.declared.part.Part.TheVariants as part
use Rattle.vx_plan.proofs.Opened.{opened_push, lens_same, parts_clean, types_up, lanes_down, exceptions_down, interleaved_down, interleaved_told}

-- ---- a fault of the part's own

-- of a layer over clean parts
own_told : (self : Part) (y : Part-F Part) (e : ColumnError) → out-Part self ≡ y → AllByRecursion IsClean (children y) → MadeCause (λ f. IsOwnFault y f) e → IsFaultOf self e
own_told self y e is clean (inl memory) = inl memory
own_told self y e is clean (inr (f, same, own)) = inr ([], f, same, subst (OwnFault f) (sym is) (All-from_recursion IsClean (children y) clean, own))

pub fault_constant : (t : DType) (r : Option Value) (n : ℕ) (e : ColumnError) → RefusesMisfit (row_fits t r) e → IsFaultOf (part.Constant t r n) e
fault_constant t r n e cause = own_told (part.Constant t r n) (Part-F.Constant t r n) e (outs-Constant t r n) tt (made cause)
  where
    made : RefusesMisfit (row_fits t r) e → MadeCause (λ f. IsOwnFault (Part-F.Constant t r n) f) e
    made (inl memory) = inl memory
    made (inr misfit) = inr (Broken RowType, misfit.0, (refl, misfit.1))

pub fault_chunked : (t : DType) (ps : List Part) (cs : List Column) (e : ColumnError) → AreOpened ps cs → ChunksCause t cs e → IsFaultOf (part.Chunked t ps) e
fault_chunked t ps cs e o cause = own_told (part.Chunked t ps) (Part-F.Chunked t ps) e (outs-Chunked t ps) (parts_clean ps cs o) (made cause)
  where
    made : ChunksCause t cs e → MadeCause (λ f. IsOwnFault (Part-F.Chunked t ps) f) e
    made (inl memory) = inl memory
    made (inr (inl long)) = inr (Broken TooLong, long.0, inl (refl, subst (λ ns. 2 ^ 64 ≤ total ns) (lens_same ps cs o) long.1))
    made (inr (inr typed)) =
        inr (
          Broken ChunkType,
          typed.0,
          inr (
            refl,
            subst (λ ns. total ns < 2 ^ 64) (lens_same ps cs o) typed.1,
            λ all. typed.2 (All-from_recursion (IsOf t) cs (types_up t ps cs o (recursion_from_All (IsPartOf t) ps all))),
          ),
        )

-- a cause in other words
cause_in : (P Q : Option Fault → Type 0) (e : ColumnError) → ((f : Option Fault) → P f → Q f) → MadeCause P e → MadeCause Q e
cause_in P Q e h (inl memory) = inl memory
cause_in P Q e h (inr (f, same, own)) = inr (f, same, h (Some f) own)

pub fault_lanes : (p : Part) (n o : ℕ) (lo is vs : Flat) (c : Column) (e : ColumnError) → IsOpened p c
    → MadeCause (IsLanesFault (type_of c) (len_of c) n o lo is vs) e → IsFaultOf (part.Lanes p n o lo is vs) e
fault_lanes p n o lo is vs c e opened cause =
    own_told (part.Lanes p n o lo is vs) (Part-F.Lanes p n o lo is vs) e (outs-Lanes p n o lo is vs) (opened.clean, tt)
    (cause_in (IsLanesFault (type_of c) (len_of c) n o lo is vs) (IsLanesFault (part_type p) (part_len p) n o lo is vs) e (λ f. lanes_down p n o lo is vs c f opened) cause)

pub fault_excepted : (b : Part) (o : ℕ) (is : Flat) (v : Part) (co : Option Flat) (c d : Column) (e : ColumnError) → IsOpened b c → IsOpened v d
    → MadeCause (IsExceptionsFault (type_of c) (len_of c) o is (type_of d) (len_of d) co) e → IsFaultOf (part.Excepted b o is v co) e
fault_excepted b o is v co c d e base values cause =
    own_told (part.Excepted b o is v co) (Part-F.Excepted b o is v co) e (outs-Excepted b o is v co) (base.clean, (values.clean, tt))
    (cause_in (IsExceptionsFault (type_of c) (len_of c) o is (type_of d) (len_of d) co) (IsExceptionsFault (part_type b) (part_len b) o is (part_type v) (part_len v) co) e
    (λ f. exceptions_down b o is v co c d f base values) cause)

pub fault_interleaved : (ps : List Part) (ai ri : Flat) (cs : List Column) (e : ColumnError) → AreOpened ps cs
    → MadeCause (IsInterleaveFault (map type_of cs) (map len_of cs) ai ri) e → IsFaultOf (part.Interleaved ps ai ri) e
fault_interleaved ps ai ri cs e o cause =
    own_told (part.Interleaved ps ai ri) (Part-F.Interleaved ps ai ri) e (outs-Interleaved ps ai ri) (parts_clean ps cs o)
    (cause_in (IsInterleaveFault (map type_of cs) (map len_of cs) ai ri) (IsInterleaveFault (map part_type ps) (map part_len ps) ai ri) e (λ f. interleaved_down ps ai ri cs f o) cause)

-- the same of equal values
pub misfit_told : (t t' : DType) (r r' : Option Value) (e : ColumnError) → t' ≡ t → r' ≡ r → RefusesMisfit (row_fits t' r') e → RefusesMisfit (row_fits t r) e
misfit_told t t' r r' e f g h = subst (λ (x : DType). RefusesMisfit (row_fits x r) e) f (subst (λ (x : Option Value). RefusesMisfit (row_fits t' x) e) g h)

pub interleaved_cause : (ts : List DType) (lens : List ℕ) (ai ai' ri ri' : Flat) (e : ColumnError) → ai' ≡ ai → ri' ≡ ri
    → MadeCause (IsInterleaveFault ts lens ai' ri') e → MadeCause (IsInterleaveFault ts lens ai ri) e
interleaved_cause ts lens ai ai' ri ri' e f g =
    cause_in (IsInterleaveFault ts lens ai' ri') (IsInterleaveFault ts lens ai ri) e (λ fault. interleaved_told ts lens ai ai' ri ri' fault f g)

-- ---- a fault of a part within

-- the refusal of a part, as the part that holds it tells
pub fault_under : (n : ℕ) (x : Part) (e e' : ColumnError) → IsFaultOf x e → Within n e e' → IsFaultUnder n x e'
fault_under n x e e' (inl memory) w = inl (subst (λ z. Within n z e') memory w)
fault_under n x e e' (inr (path, f, same, at)) w = told f at (subst (λ z. Within n z e') same w)
  where
    by : (f : Fault) → FaultAt path f x → (e' ≡ OutOfMemory) ⊎ (e' ≡ error_at (n ∷ path) f) → IsFaultUnder n x e'
    by f at (inl memory) = inl memory
    by f at (inr same') = inr (path, f, same', at)

    told : (f : Fault) → FaultAt path f x → Within n (error_at path f) e' → IsFaultUnder n x e'
    told Unsupported at w = by Unsupported at w
    told (Broken rule) at w = by (Broken rule) at w

get_behind : (ps : List Part) (x : Part) (rest : List Part) (d : Part) → get_or (ps ++ (x ∷ rest)) (length ps) d ≡ x
get_behind [] x rest d = refl
get_behind (p ∷ ps) x rest d = get_behind ps x rest d

at_behind : (F : Part → Type 0) (ps : List Part) (x : Part) (rest : List Part) → All IsClean ps → F x → At F (length ps) (ps ++ (x ∷ rest))
at_behind F ps x rest clean f =
    (omega (arith, length-append ps (x ∷ rest)), subst (All IsClean) (sym (take_at ps (x ∷ rest) (length ps) refl)) clean, λ d. subst F (sym (get_behind ps x rest d)) f)

-- the fault of a part behind clean ones is the first fault of all
fault_behind : (ps rest : List Part) (x : Part) (n : ℕ) (e : ColumnError) → AllByRecursion IsClean ps → n ≡ length ps → IsFaultUnder n x e → IsFaultIn (ps ++ (x ∷ rest)) e
fault_behind ps rest x n e clean h (inl memory) = inl memory
fault_behind ps rest x n e clean h (inr (path, f, same, at)) =
    inr (n, path, f, same, subst (λ m. At (FaultAt path f) m (ps ++ (x ∷ rest))) (sym h) (at_behind (FaultAt path f) ps x rest (All-from_recursion IsClean ps clean) at))

pub fault_in : (ps rest : List Part) (cs : List Column) (x : Part) (parts : List Part) (n : ℕ) (e : ColumnError) → ps ++ (x ∷ rest) ≡ parts → AreOpened ps cs → n ≡ length ps → IsFaultUnder n x e → IsFaultIn parts e
fault_in ps rest cs x parts n e all o h under = subst (λ qs. IsFaultIn qs e) all (fault_behind ps rest x n e (parts_clean ps cs o) h under)

split_at : (parts : List Part) (k : ℕ) (x : Part) → k < length parts → x ≡ get_or parts k x → take k parts ++ (x ∷ drop (k + 1) parts) ≡ parts
split_at parts k x h at = ap (λ (rest : List Part). take k parts ++ rest) (ap (λ d. d ∷ drop (k + 1) parts) at ∙ sym (drop_more parts k x h)) ∙ take-append-drop k parts

-- the fault of a part at its place
pub fault_at : (parts : List Part) (k : ℕ) (cs : List Column) (x : Part) (e : ColumnError) → k < length parts → x ≡ get_or parts k x → AreOpened (take k parts) cs → IsFaultUnder k x e → IsFaultIn parts e
fault_at parts k cs x e h at o under =
    fault_in (take k parts) (drop (k + 1) parts) cs x parts k e (split_at parts k x h at) o (sym (length-take-le k parts (omega arith))) under

-- the first fault of the parts within is that of the part
within_told : (self : Part) (y : Part-F Part) (e : ColumnError) → out-Part self ≡ y → IsFaultIn (children y) e → IsFaultOf self e
within_told self y e is (inl memory) = inl memory
within_told self y e is (inr (k, path, f, same, at)) = inr (k ∷ path, f, same, subst (λ z. At (FaultAt path f) k (children z)) (sym is) at)

pub within_chunked : (t : DType) (ps : List Part) (e : ColumnError) → IsFaultIn ps e → IsFaultOf (part.Chunked t ps) e
within_chunked t ps e = within_told (part.Chunked t ps) (Part-F.Chunked t ps) e (outs-Chunked t ps)

pub within_interleaved : (ps : List Part) (ai ri : Flat) (e : ColumnError) → IsFaultIn ps e → IsFaultOf (part.Interleaved ps ai ri) e
within_interleaved ps ai ri e = within_told (part.Interleaved ps ai ri) (Part-F.Interleaved ps ai ri) e (outs-Interleaved ps ai ri)

pub within_lanes : (p : Part) (n o : ℕ) (lo is vs : Flat) (e : ColumnError) → IsFaultUnder 0 p e → IsFaultOf (part.Lanes p n o lo is vs) e
within_lanes p n o lo is vs e under =
    within_told (part.Lanes p n o lo is vs) (Part-F.Lanes p n o lo is vs) e (outs-Lanes p n o lo is vs) (fault_behind [] [] p 0 e tt refl under)

pub within_base : (b : Part) (o : ℕ) (is : Flat) (v : Part) (co : Option Flat) (e : ColumnError) → IsFaultUnder 0 b e → IsFaultOf (part.Excepted b o is v co) e
within_base b o is v co e under =
    within_told (part.Excepted b o is v co) (Part-F.Excepted b o is v co) e (outs-Excepted b o is v co) (fault_behind [] (v ∷ []) b 0 e tt refl under)

pub within_values : (b : Part) (o : ℕ) (is : Flat) (v : Part) (co : Option Flat) (c : Column) (e : ColumnError) → IsOpened b c → IsFaultUnder 1 v e → IsFaultOf (part.Excepted b o is v co) e
within_values b o is v co c e base under =
    within_told (part.Excepted b o is v co) (Part-F.Excepted b o is v co) e (outs-Excepted b o is v co) (fault_behind (b ∷ []) [] v 1 e (base.clean, tt) refl under)

-- ---- what opening costs

-- the parts so far, one more, and the rest
pub open_cost_at : (ps : List Part) (x : Part) (rest : List Part) → open_cost (ps ++ (x ∷ rest)) ≡ open_cost ps + (part_open_cost x + open_cost rest)
open_cost_at [] x rest = omega arith
open_cost_at (p ∷ ps) x rest = omega (arith, open_cost_at ps x rest)

-- the same at a place
pub cost_at : (parts : List Part) (k : ℕ) (x : Part) → k < length parts → x ≡ get_or parts k x
    → (open_cost (take (k + 1) parts) ≡ open_cost (take k parts) + part_open_cost x) × (open_cost (take k parts) + part_open_cost x ≤ open_cost parts)
cost_at parts k x h at =
    let more : open_cost (take (k + 1) parts) ≡ open_cost (take k parts ++ x ∷ []) = ap open_cost (take_more parts k x h ∙ ap (λ (d : Part). take k parts ++ d ∷ []) (sym at)) in
    (omega (arith, more, open_cost_at (take k parts) x []), omega (arith, ap open_cost (split_at parts k x h at), open_cost_at (take k parts) x (drop (k + 1) parts)))

-- one column more
pub opened_more : (parts : List Part) (k : ℕ) (cs : List Column) (x : Part) (c : Column) → k < length parts → x ≡ get_or parts k x → AreOpened (take k parts) cs → IsOpened x c
    → AreOpened (take (k + 1) parts) (cs ++ c ∷ [])
opened_more parts k cs x c h at o opened =
    subst (λ (ps : List Part). AreOpened ps (cs ++ c ∷ [])) (ap (λ (d : Part). take k parts ++ d ∷ []) at ∙ sym (take_more parts k x h)) (opened_push (take k parts) cs x c o opened)
