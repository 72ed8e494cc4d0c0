-- From the first column to the parts.
use Rattle.std.proofs.Common.{◌≡◌, ◌⊎◌, inl, inr, ℕ, ◌+◌, ◌*◌, ◌≤◌, ◌<◌, List, [], ◌∷◌, map, length, get_or, sym, ap, subst, arith}
use Rattle.std.specs.List.{All, AllByRecursion}
use Rattle.std.proofs.lemmas.List.Elements.{All-from_recursion}
use Rattle.vx_rows.specs.declared.dtype.DType.{DType}
use Rattle.vx_rows.specs.declared.error.ColumnError.{ColumnError}
use Rattle.vx_rows.specs.declared.error.ColumnError.TheVariants.{OutOfMemory}
use Rattle.vx_base.specs.Column.{Flat}
use Rattle.vx_column.specs.Columns.{type_of, flat_of, point_cost, select_bound, IsPlain, IsSound}
use Rattle.vx_column.specs.declared.column.Column.{Column}
use Rattle.vx_job.specs.declared.part.Part.{Part}
use Rattle.vx_job.specs.declared.step.Step.{Step}
use Rattle.vx_job.specs.declared.page.Answer.{Answer}
use Rattle.vx_job.specs.Parts.{part_flat, part_point_cost, part_select_bound, open_cost, IsClean, PartsCause}
use Rattle.vx_job.specs.Steps.{HasBound}
use Rattle.vx_job.specs.Plans.{RunsTo, StopsWith, sources_of, Reaches, IsPlanError, AreBounded, plan_cost, plan_bound, rows_bound}
use Rattle.vx_job.proofs.Faults.{no_fault_among}
use Rattle.vx_job.proofs.Runs.{runs_freely}
use Rattle.vx_plan.specs.AnswersView.{CostsNoMore}
use Rattle.vx_plan.specs.Opened.{IsOpened, AreOpened, IsFirst}
use Rattle.vx_plan.proofs.Opened.{parts_clean, same_flat, flats_same}
use Rattle.vx_plan.proofs.Runs.{select_less}

pub first_is : (ps : List Part) (cs : List Column) (x : Column) → AreOpened ps cs → 0 < length ps → x ≡ get_or cs 0 x → IsFirst ps cs x
first_is [] cs x o some at = absurd (omega arith)
first_is (p ∷ ps) [] x o some at = absurd o
first_is (p ∷ ps) (c ∷ cs) x o some at = (o, subst (IsOpened p) (sym at) o.0)

-- the columns that are lent, where they are those that were opened
pub first_of : (ps qs : List Part) (cs ds es : List Column) (x y : Column) → qs ≡ ps → AreOpened qs cs → 0 < length qs → ds ≡ cs → es ≡ cs → x ≡ get_or ds 0 x → y ≡ x → IsFirst ps es y
first_of ps qs cs ds es x y p o some d e at same =
    let at_first : x ≡ get_or cs 0 x = subst (λ (zs : List Column). x ≡ get_or zs 0 x) d at in
    subst (λ (rs : List Part). IsFirst rs es y) p
    (subst (λ (zs : List Column). IsFirst qs zs y) (sym e) (subst (IsFirst qs cs) (sym same) (first_is qs cs x o some at_first)))

pub first_sound : (ps : List Part) (cs : List Column) (x : Column) → IsFirst ps cs x → IsSound x
first_sound [] cs x f = absurd f
first_sound (p ∷ ps) cs x f = f.1.sound

opened_sound : (ps : List Part) (cs : List Column) → AreOpened ps cs → AllByRecursion IsSound cs
opened_sound [] [] o = tt
opened_sound [] (c ∷ cs) o = absurd o
opened_sound (p ∷ ps) [] o = absurd o
opened_sound (p ∷ ps) (c ∷ cs) o = (o.0.sound, opened_sound ps cs o.1)

-- each column that was opened is sound
pub sources_sound : (ps : List Part) (cs : List Column) (x : Column) → IsFirst ps cs x → All IsSound cs
sources_sound [] cs x f = absurd f
sources_sound (p ∷ ps) cs x f = All-from_recursion IsSound cs (opened_sound (p ∷ ps) cs f.0)

clean_all : (ps : List Part) (cs : List Column) → AreOpened ps cs → All IsClean ps
clean_all ps cs o = All-from_recursion IsClean ps (parts_clean ps cs o)

-- a run over the columns is one over what the parts mean
pub first_reaches : (ps : List Part) (cs : List Column) (x : Column) (plan : List Step) (answers : List Answer) (last : Flat) → IsFirst ps cs x
    → RunsTo (map flat_of cs) 0 (flat_of x) plan answers last → Reaches ps plan answers last
first_reaches [] cs x plan answers last f run = absurd f
first_reaches (p ∷ ps) cs x plan answers last f run = (
  clean_all (p ∷ ps) cs f.0,
  subst (λ (s : List Flat). RunsTo s 0 (part_flat p) plan answers last) (flats_same (p ∷ ps) cs f.0)
      (subst (λ (c : Flat). RunsTo (map flat_of cs) 0 c plan answers last) (same_flat p x f.1) run),
)

pub first_error : (ps : List Part) (cs : List Column) (x : Column) (plan : List Step) (e : ColumnError) → IsFirst ps cs x
    → (e ≡ OutOfMemory) ⊎ StopsWith (map flat_of cs) 0 (flat_of x) plan e → (e ≡ OutOfMemory) ⊎ IsPlanError ps plan e
first_error ps cs x plan e f (inl memory) = inl memory
first_error [] cs x plan e f (inr error) = absurd f
first_error (p ∷ ps) cs x plan e f (inr error) =
    inr (inr (
      clean_all (p ∷ ps) cs f.0,
      subst (λ (s : List Flat). StopsWith s 0 (part_flat p) plan e) (flats_same (p ∷ ps) cs f.0)
          (subst (λ (c : Flat). StopsWith (map flat_of cs) 0 c plan e) (same_flat p x f.1) error),
    ))

-- ---- opening the parts, and then the steps

pub first_bounded : (ps : List Part) (cs : List Column) (x : Column) (plan : List Step) → IsFirst ps cs x → AreBounded ps plan → All (HasBound (type_of x)) plan
first_bounded [] cs x plan f bounded = absurd f
first_bounded (p ∷ ps) cs x plan f bounded = subst (λ (t : DType). All (HasBound t) plan) (sym f.1.dtype) bounded

select_same : (p : Part) (x : Column) → IsOpened p x → select_bound x ≡ part_select_bound p
select_same p x o = λ i n. 8 * n * o.point i + o.lanes i

pub first_bound : (ps : List Part) (cs : List Column) (x : Column) (plan : List Step) → IsFirst ps cs x
    → open_cost ps + plan_cost (point_cost x) (select_bound x) plan ≤ plan_bound ps plan
first_bound [] cs x plan f = absurd f
first_bound (p ∷ ps) cs x plan f =
    omega (arith, ap (λ n. plan_cost n (select_bound x) plan) f.1.point, ap (λ (s : ℕ → ℕ). plan_cost (part_point_cost p) s plan) (select_same p x f.1))

pub open_bound : (ps : List Part) (plan : List Step) → open_cost ps ≤ plan_bound ps plan
open_bound [] plan = omega arith
open_bound (p ∷ ps) plan = omega arith

pub first_plain : (ps : List Part) (cs : List Column) (x y : Column) → IsFirst ps cs x → CostsNoMore x y → IsPlain y
first_plain [] cs x y f costs = absurd f
first_plain (p ∷ ps) cs x y f costs = costs.plain f.1.plain

pub first_is_plain : (ps : List Part) (cs : List Column) (x : Column) → IsFirst ps cs x → IsPlain x
first_is_plain [] cs x f = absurd f
first_is_plain (p ∷ ps) cs x f = f.1.plain

pub first_select : (ps : List Part) (cs : List Column) (x y : Column) (n : ℕ) → IsFirst ps cs x → CostsNoMore x y → select_bound y n ≤ rows_bound ps n
first_select [] cs x y n f costs = absurd f
first_select (p ∷ ps) cs x y n f costs = omega (arith, select_less x y costs n, ap (λ (s : ℕ → ℕ). s n) (select_same p x f.1))

-- ---- refusals

pub parts_error : (ps : List Part) (plan : List Step) (e : ColumnError) → PartsCause ps e → (e ≡ OutOfMemory) ⊎ IsPlanError ps plan e
parts_error [] plan e (inl none) = inr (inl none.0)
parts_error (p ∷ ps) plan e (inl none) = absurd (some p ps none.1)
  where
    some : (p : Part) (ps : List Part) → p ∷ ps ≡ [] → ⊥
    some p ps h = cc
parts_error ps plan e (inr (inl memory)) = inl memory
parts_error [] plan e (inr (inr fault)) = absurd (let (k, path, rule, same, at) = fault in let short = at.0 in omega arith)
parts_error (p ∷ ps) plan e (inr (inr fault)) = inr (inl fault)

-- a plan that reaches its end has no error
pub no_error : (ps : List Part) (plan : List Step) (answers : List Answer) (last : Flat) → Reaches ps plan answers last → (e : ColumnError) → IsPlanError ps plan e → ⊥
no_error [] plan answers last r e error = r
no_error (p ∷ ps) plan answers last r e (inl fault) = no_fault_among (p ∷ ps) e r.0 fault
no_error (p ∷ ps) plan answers last r e (inr error) = runs_freely (sources_of (p ∷ ps)) 0 (part_flat p) plan answers last e r.1 error.1

pub only_memory : (ps : List Part) (plan : List Step) (answers : List Answer) (last : Flat) → Reaches ps plan answers last → (e : ColumnError)
    → (e ≡ OutOfMemory) ⊎ IsPlanError ps plan e → e ≡ OutOfMemory
only_memory ps plan answers last r e (inl memory) = memory
only_memory ps plan answers last r e (inr error) = absurd (no_error ps plan answers last r e error)
