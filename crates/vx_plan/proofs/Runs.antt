-- Runs of plans.
use Rattle.std.proofs.Common.{◌≡◌, ◌⊎◌, inl, inr, ℕ, zero, suc, ◌+◌, ◌*◌, ◌≤◌, ◌<◌, List, [], ◌∷◌, ◌++◌, length, take, drop, get_or, refl, sym, ◌∙◌, ap, subst, arith, append_assoc, None}
use Rattle.std.proofs.lemmas.List.{take_more, drop_more, append-nil, map-append}
use Rattle.std.proofs.lemmas.List.Elements.{All-get_or}
use Rattle.std.proofs.lemmas.Bool.Decides.{nat_tests}
use Rattle.std.proofs.Math.ListN.{drop_of_length-le}
use Rattle.std.proofs.Math.Nat.{mul-le-mul, mul-le-mul_left}
use Rattle.std.specs.List.{All}
use Rattle.vx_rows.specs.Types.{is_nested}
use Rattle.vx_rows.specs.declared.dtype.DType.{DType}
use Rattle.vx_rows.specs.declared.error.ColumnError.{ColumnError}
use Rattle.vx_rows.specs.declared.error.ColumnError.TheVariants.{OutOfMemory}
use Rattle.vx_base.specs.Column.{Flat}
use Rattle.vx_base.specs.Ranges.{ends_cut}
use Rattle.vx_masks.specs.Bits.{count_true}
use Rattle.vx_column.specs.Columns.{type_of, point_cost, select_bound}
use Rattle.vx_column.specs.declared.column.Column.{Column}
use Rattle.vx_job.specs.Rows.{Rows, picked}
use Rattle.vx_job.specs.Steps.{step_leaves, step_answers, IsStepError, IsFree, AreInside, HasBound, step_cost}
use Rattle.vx_job.specs.Plans.{RunsTo, StopsWith, plan_cost}
use Rattle.vx_job.specs.declared.page.Answer.{Answer}
use Rattle.vx_job.specs.declared.step.Step.{Step}
use Rattle.vx_job.specs.declared.step.Step.TheVariants.{Slice, Points, Filter, Take, Runs, Mask, Zip, Fill, Cast, Compare, Search, Contains}
use Rattle.vx_plan.specs.AnswersView.{CostsNoMore}

-- ---- what runs

-- what runs from a step on makes the whole run, and so does what stops there
pub record Continues (sources : List Flat) (first : Flat) (plan : List Step) (k : ℕ) (c : Flat) (answers : List Answer) : Type 0 where
  pub runs : (rest : List Answer) (last : Flat) → RunsTo sources k c (drop k plan) rest last → RunsTo sources 0 first plan (answers ++ rest) last
  pub stops : (e : ColumnError) → StopsWith sources k c (drop k plan) e → StopsWith sources 0 first plan e

pub continues_first : (sources : List Flat) (first : Flat) (plan : List Step) → Continues sources first plan 0 first []
continues_first sources first plan = record { runs = λ rest last run. run; stops = λ e stop. stop }

at_step : (plan : List Step) (k : ℕ) (step : Step) → k < length plan → step ≡ get_or plan k step → drop k plan ≡ step ∷ drop (k + 1) plan
at_step plan k step h at = drop_more plan k step h ∙ ap (λ d. d ∷ drop (k + 1) plan) (sym at)

pub continues_on : (sources : List Flat) (first : Flat) (plan : List Step) (k : ℕ) (c : Flat) (answers : List Answer) (step : Step)
    → k < length plan → step ≡ get_or plan k step → Continues sources first plan k c answers → IsFree sources k c step
    → Continues sources first plan (k + 1) (step_leaves sources c step) (answers ++ step_answers sources c step)
continues_on sources first plan k c answers step h at so free =
    let given = step_answers sources c step in
    let here : step ∷ drop (k + 1) plan ≡ drop k plan = sym (at_step plan k step h at) in
    record {
      runs = λ rest last run.
          subst (λ (xs : List Answer). RunsTo sources 0 first plan xs last) (sym (append_assoc answers given rest))
          (so.runs (given ++ rest) last (subst (λ p. RunsTo sources k c p (given ++ rest) last) here (free, (rest, refl, run))));
      stops = λ e stop. so.stops e (subst (λ p. StopsWith sources k c p e) here (inr (free, stop)));
    }

pub continues_last : (sources : List Flat) (first : Flat) (plan : List Step) (k : ℕ) (c : Flat) (answers : List Answer)
    → length plan ≤ k → Continues sources first plan k c answers → RunsTo sources 0 first plan answers c
continues_last sources first plan k c answers h so =
    subst (λ (xs : List Answer). RunsTo sources 0 first plan xs c) (append-nil answers)
    (so.runs [] c (subst (λ p. RunsTo sources k c p [] c) (sym (drop_of_length-le plan h)) (refl, refl)))

pub continues_stop : (sources : List Flat) (first : Flat) (plan : List Step) (k : ℕ) (c : Flat) (answers : List Answer) (step : Step) (e : ColumnError)
    → k < length plan → step ≡ get_or plan k step → Continues sources first plan k c answers → (e ≡ OutOfMemory) ⊎ IsStepError sources k c step e
    → (e ≡ OutOfMemory) ⊎ StopsWith sources 0 first plan e
continues_stop sources first plan k c answers step e h at so (inl memory) = inl memory
continues_stop sources first plan k c answers step e h at so (inr error) =
    inr (so.stops e (subst (λ p. StopsWith sources k c p e) (sym (at_step plan k step h at)) (inl error)))

-- ---- costs along a plan

cost_more : (point : ℕ) (select : ℕ → ℕ) (plan : List Step) (k : ℕ) (d : Step) → k < length plan
    → plan_cost point select (take (k + 1) plan) ≡ plan_cost point select (take k plan) + step_cost point select (get_or plan k d)
cost_more point select plan k d h = ap (plan_cost point select) (take_more plan k d h) ∙ cost-append (take k plan) (get_or plan k d)
  where
    cost-append : (plan : List Step) (step : Step) → plan_cost point select (plan ++ step ∷ []) ≡ plan_cost point select plan + step_cost point select step
    cost-append [] step = omega arith
    cost-append (s ∷ plan) step = omega (arith, cost-append plan step)

pub cost_part : (point : ℕ) (select : ℕ → ℕ) (plan : List Step) (k : ℕ) → plan_cost point select (take k plan) ≤ plan_cost point select plan
cost_part point select [] zero = omega arith
cost_part point select [] (suc k) = omega arith
cost_part point select (s ∷ plan) zero = omega arith
cost_part point select (s ∷ plan) (suc k) = omega (arith, cost_part point select plan k)

-- a column's costs are no more than those of an earlier one
pub select_less : (x y : Column) → CostsNoMore x y → (n : ℕ) → select_bound y n ≤ select_bound x n
select_less x y costs n = omega (arith, mul-le-mul_left (8 * n) costs.point, costs.lanes)

cost_less : (point first : ℕ) (select whole : ℕ → ℕ) (step : Step) → point ≤ first → ((n : ℕ) → select n ≤ whole n) → step_cost point select step ≤ step_cost first whole step
cost_less point first select whole (Slice start end) h k = omega arith
cost_less point first select whole (Points numbers kept) h k = mul-le-mul_left (length numbers) h
cost_less point first select whole (Filter mask) h k = k (count_true mask)
cost_less point first select whole (Take indices) h k = k (length indices)
cost_less point first select whole (Runs runs len) h k = k len
cost_less point first select whole (Mask mask) h k = omega arith
cost_less point first select whole (Zip source choice) h k = omega arith
cost_less point first select whole (Fill value) h k = omega arith
cost_less point first select whole (Cast target) h k = omega arith
cost_less point first select whole (Compare op value) h k = omega arith
cost_less point first select whole (Search value side) h k = omega arith
cost_less point first select whole (Contains source) h k = omega arith

-- whether a step has a bound depends on whether the type is nested
bound_kept : (s t : DType) (step : Step) → is_nested t ≡ is_nested s → HasBound s step → HasBound t step
bound_kept s t (Slice start end) same bound = bound
bound_kept s t (Points numbers kept) same bound = bound
bound_kept s t (Filter mask) same bound = same ∙ bound
bound_kept s t (Take indices) same bound = same ∙ bound
bound_kept s t (Runs runs len) same bound = same ∙ bound
bound_kept s t (Mask mask) same bound = bound
bound_kept s t (Zip source choice) same bound = bound
bound_kept s t (Fill value) same bound = bound
bound_kept s t (Cast target) same bound = bound
bound_kept s t (Compare op value) same bound = bound
bound_kept s t (Search value side) same bound = bound
bound_kept s t (Contains source) same bound = bound

-- each step of a bounded plan has a bound, also over a later column
pub bound_at : (first column : Column) (plan : List Step) (k : ℕ) (step : Step) → k < length plan → step ≡ get_or plan k step → All (HasBound (type_of first)) plan
    → CostsNoMore first column → HasBound (type_of column) step
bound_at first column plan k step h at bounded costs =
    subst (λ (s : Step). HasBound (type_of column) s) (sym at)
    (bound_kept (type_of first) (type_of column) (get_or plan k step) costs.nested (All-get_or (HasBound (type_of first)) plan k step h bounded))

pub rise_at : (first column : Column) (plan : List Step) (k : ℕ) (step : Step) (old mid new : ℕ) → k < length plan → step ≡ get_or plan k step → CostsNoMore first column
    → mid ≤ old + plan_cost (point_cost first) (select_bound first) (take k plan) → new ≤ mid + step_cost (point_cost column) (select_bound column) step
    → (new ≤ old + plan_cost (point_cost first) (select_bound first) (take (k + 1) plan)) × (new ≤ old + plan_cost (point_cost first) (select_bound first) plan)
rise_at first column plan k step old mid new h at costs r s =
    let point = point_cost first in
    let select = select_bound first in
    let more : plan_cost point select (take (k + 1) plan) ≡ plan_cost point select (take k plan) + step_cost point select step =
    cost_more point select plan k step h ∙ ap (λ d. plan_cost point select (take k plan) + step_cost point select d) (sym at) in
    let less : step_cost (point_cost column) (select_bound column) step ≤ step_cost point select step =
    cost_less (point_cost column) point (select_bound column) select step costs.point (select_less first column costs) in
    let now : new ≤ old + plan_cost point select (take (k + 1) plan) = omega arith in
    (now, omega (arith, cost_part point select plan (k + 1)))

pub costs_same : (x : Column) → CostsNoMore x x
costs_same x = record { nested = refl; point = omega arith; cut = omega arith; lanes = omega arith; plain = λ h. h }

-- costs from a column to one after the next
pub costs_on : (x y z : Column) → CostsNoMore x y → CostsNoMore y z → CostsNoMore x z
costs_on x y z a b =
    let p = b.point in let q = b.cut in let l = b.lanes in
    record { nested = b.nested ∙ a.nested; point = omega (arith, a.point); cut = omega (arith, a.cut); lanes = omega (arith, a.lanes); plain = λ h. b.plain (a.plain h) }

-- ---- a slice and points

pub ends_at_most_two : (start end len : ℕ) → ends_cut start end len ≤ 2
ends_at_most_two start end len = grind (arith, nat_tests)

-- a slice costs at most four reads
pub slice_rise : (cuts cut point : ℕ) → cuts ≤ 2 → cut ≤ 2 * point → cuts * cut ≤ 4 * point
slice_rise cuts cut point h k = omega (arith, mul-le-mul h k)

-- one point more
pub picked_more : (rows : Rows) (numbers : List ℕ) (k : ℕ) → k < length numbers → picked rows (take (k + 1) numbers) ≡ picked rows (take k numbers) ++ get_or rows (get_or numbers k 0) None ∷ []
picked_more rows numbers k h =
    ap (picked rows) (take_more numbers k 0 h) ∙ map-append (λ i. get_or rows i None) (take k numbers) (get_or numbers k 0 ∷ [])

pub inside_more : (len : ℕ) (numbers : List ℕ) (k : ℕ) → k < length numbers → AreInside len (take k numbers) → get_or numbers k 0 < len → AreInside len (take (k + 1) numbers)
inside_more len numbers k h all last = subst (AreInside len) (sym (take_more numbers k 0 h)) (inside-append len (take k numbers) (get_or numbers k 0) all last)
  where
    inside-append : (len : ℕ) (ms : List ℕ) (n : ℕ) → AreInside len ms → n < len → AreInside len (ms ++ n ∷ [])
    inside-append len [] n all h zero short = h
    inside-append len [] n all h (suc k) short = absurd (omega arith)
    inside-append len (m ∷ ms) n all h zero short = all zero (omega arith)
    inside-append len (m ∷ ms) n all h (suc k) short = inside-append len ms n (λ j less. all (suc j) (omega arith)) h k (omega arith)
