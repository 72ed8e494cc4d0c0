use Rattle.std.proofs.Common.{arith, sym, ap, subst, cond, ◌∙◌, ◌≡◌, ◌≤◌, length, map, ℕ, Bool, List, Option, Some}
use Rattle.std.specs.List.{All, range_with_len}
use Rattle.std.proofs.lemmas.List.{length-map}
use Rattle.std.proofs.lemmas.Result.{IfOk-weaker}
use Rattle.vx_job.specs.Rows.{picked as rows_at}
use Rattle.vx_column.specs.Columns.{rows_of, type_of, len_of}
use Rattle.vx_select.specs.Spots.{AreBelow}
use Rattle.vx_bulk.specs.Selections.{picked, IsWithin}
use Rattle.vx_bulk.specs.Types.{taken_type, nullable}
use Rattle.vx_select.specs.Causes.{present}
use Rattle.vx_select.specs.Chosen.{IsSelectionOf}
use Rattle.vx_select.proofs.Chosen.{present_below, present_few, present_all, all_present, none_absent, some_absent, fewer}
use Rattle.vx_select.proofs.Selected.{same_rows, same_type, within_more}
use Rattle.vx_select.proofs.select.ColumnSelect.take.Goals as goal

pub picked_of-requires-clause-inside : goal.picked_of-requires-clause-inside
picked_of-requires-clause-inside g c =
    let n = len_of c.args.self.now in
    let indices : List (Option ℕ) = c.args.indices.now in
    let inside = subst (λ (m : ℕ). All (IsWithin m) indices) c.len.ensures c.in_ok-places.ensures.inside in
    subst (AreBelow n) (sym (c.as_slice.ensures.value ∙ c.in_ok-places.ensures.ok)) (present_below n indices inside)

pub returns-then-len-indices-clause-ok : goal.returns-then-len-indices-clause-ok
returns-then-len-indices-clause-ok g c =
    let self = c.args.self.now in
    let t = type_of self in
    let indices : List (Option ℕ) = c.args.indices.now in
    let all : length (present indices) ≡ length indices = omega (arith, ap length c.in_ok-places.ensures.ok, c.len-2.ensures, c.if-len-indices.true) in
    let same : t ≡ taken_type t indices = sym (ap (λ (b : Bool). cond b (nullable t) t) (none_absent indices all)) in
    let rows = ap (rows_at (rows_of self)) (c.as_slice.ensures.value ∙ c.in_ok-places.ensures.ok) ∙ all_present (rows_of self) indices all in
    IfOk-weaker c.picked_of.result (IsSelectionOf self t (rows_at (rows_of self) c.as_slice.result.now)) (IsSelectionOf self (taken_type t indices) (picked (rows_of self) indices))
    (λ part s. same_type self t (taken_type t indices) (picked (rows_of self) indices) part same (same_rows self t (rows_at (rows_of self) c.as_slice.result.now) (picked (rows_of self) indices) part rows s)) c.picked_of.ensures.ok

pub returns-then-len-indices-clause-same : goal.returns-then-len-indices-clause-same
returns-then-len-indices-clause-same g c =
    let self = c.args.self.now in
    let indices : List (Option ℕ) = c.args.indices.now in
    let all = range_with_len 0 (len_of self) in
    IfOk-weaker c.picked_of.result (λ part. c.as_slice.result.now ≡ all → part ≡ self) (λ part. indices ≡ map (λ (p : ℕ). Some p) all → part ≡ self)
    (λ part f e. f (c.as_slice.ensures.value ∙ c.in_ok-places.ensures.ok ∙ ap present e ∙ present_all all)) c.picked_of.ensures.same

pub spread_of-requires-clause-inside : goal.spread_of-requires-clause-inside
spread_of-requires-clause-inside g c =
    let n = len_of c.args.self.now in
    let indices : List (Option ℕ) = c.args.indices.now in
    let inside = subst (λ (m : ℕ). All (IsWithin m) indices) c.len.ensures c.in_ok-places.ensures.inside in
    subst (AreBelow n) (sym (c.as_slice-2.ensures.value ∙ c.in_ok-places.ensures.ok)) (present_below n indices inside)

pub returns-clause-ok : goal.returns-clause-ok
returns-clause-ok g c =
    let self = c.args.self.now in
    let t = type_of self in
    let indices : List (Option ℕ) = c.args.indices.now in
    let rows = picked (rows_of self) indices in
    let few = fewer (length (present indices)) (length indices) (present_few indices)
    (λ e. c.if-len-indices.false (omega (arith, e, ap length c.in_ok-places.ensures.ok, c.len-2.ensures))) in
    let same : nullable t ≡ taken_type t indices = sym (ap (λ (b : Bool). cond b (nullable t) t) (some_absent indices few)) in
    IfOk-weaker c.spread_of.result (IsSelectionOf self (nullable t) rows) (IsSelectionOf self (taken_type t indices) rows)
    (λ part s. same_type self (nullable t) (taken_type t indices) rows part same s) c.spread_of.ensures.ok

pub returns-clause-same : goal.returns-clause-same
returns-clause-same g c =
    let self = c.args.self.now in
    let t = type_of self in
    let indices : List (Option ℕ) = c.args.indices.now in
    let all = range_with_len 0 (len_of self) in
    IfOk-weaker c.spread_of.result (IsSelectionOf self (nullable t) (picked (rows_of self) indices)) (λ part. indices ≡ map (λ (p : ℕ). Some p) all → part ≡ self)
    (λ part s e.
    let there = ap length (ap present e ∙ present_all all) in
    let many = ap length e ∙ length-map all (λ (p : ℕ). Some p) in
    absurd (c.if-len-indices.false (omega (arith, there, many, ap length c.in_ok-places.ensures.ok, c.len-2.ensures)))) c.spread_of.ensures.ok

pub returns-clause-rise : goal.returns-clause-rise
returns-clause-rise g c =
    let indices : List (Option ℕ) = c.args.indices.now in
    let few : length c.as_slice-2.result.now ≤ length indices = omega (arith, ap length (c.as_slice-2.ensures.value ∙ c.in_ok-places.ensures.ok), present_few indices) in
    within_more c.args.self.now (length c.as_slice-2.result.now) (length indices) c.args.steps.now c.spread_of.new.steps few c.spread_of.ensures.rise
