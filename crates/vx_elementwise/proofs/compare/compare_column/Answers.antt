use Rattle.std.proofs.Common.{ℕ, ◌≡◌, ◌∙◌, ap, sym, subst, IfOk, List, length, replicate, Option, Some, None, false, not, refl}
use Rattle.std.specs.Option.{is_some}
use Rattle.std.proofs.lemmas.Bool.{false≢true}
use Rattle.vx_base.specs.Column.{Flat, flat}
use Rattle.vx_rows.specs.Types.{nullability}
use Rattle.vx_rows.specs.declared.dtype.DType.{Bool as BoolType}
use Rattle.vx_rows.specs.declared.value.Value.{Value}
use Rattle.vx_scalars.specs.declared.operator.CompareOperator.{CompareOperator}
use Rattle.vx_scalars.specs.Elementwise.{compared, compared_row, either}
use Rattle.vx_scalars.proofs.Fitting.{fits_compared}
use Rattle.vx_scalars.proofs.Lists.{compared_null, compared_replicate}
use Rattle.vx_elementwise.proofs.compare.compare_column.Goals as goal

truths_same : (op : CompareOperator) (v w row truth : Option Value) (rows : List (Option Value)) (n : ℕ) → rows ≡ replicate (length rows) row → n ≡ length rows → w ≡ v → truth ≡ compared_row op w row →
    replicate n truth ≡ compared op v rows
truths_same op v w row truth rows n same long value one =
    (λ i. replicate (long i) (one i)) ∙ sym (compared_replicate op w row (length rows)) ∙ (λ i. compared op (value i) (sym same i))

null_is : (row : Option Value) → is_some row ≡ false → row ≡ None
null_is None h = refl
null_is (Some v) h = absurd (false≢true (sym h))

pub returns-then-is_none-clause-ok : goal.returns-then-is_none-clause-ok
returns-then-is_none-clause-ok g c =
    let op = c.args.op in
    let rows = c.args.column.now.rows in
    let none : c.args.value.now.row ≡ None = sym c.row.ensures.row ∙ null_is c.row.result.now (c.is_none.ensures ∙ ap not c.if-is_none.true) in
    let own = c.either-nullability.ensures ∙ (λ i. either (nullability (c.dtype.ensures.dtype i)) (nullability (c.dtype-2.ensures.dtype i))) in
    let all = ap (λ n. replicate n None) c.len.ensures ∙ sym (compared_null op rows) ∙ ap (λ r. compared op r rows) (sym none) in
    subst (λ (f : Flat). IfOk c.constant_of.result (λ x. x ≡ f)) (λ i. flat (BoolType (own i)) (all i)) c.constant_of.ensures.ok

pub from_buffer-requires : goal.from_buffer-requires
from_buffer-requires g c =
    rw (c.either-nullability.ensures, c.dtype.ensures.dtype, c.dtype-2.ensures.dtype, c.in_ok-rows-in-None.ensures.ok, c.row-in-None.ensures.row)
    (fits_compared c.args.op c.args.column.now.dtype c.args.value.now.dtype c.args.value.now.row c.args.column.now.rows c.row.ensures.fits c.dtype.ensures.fits)

pub returns-in-Some-clause-ok : goal.returns-in-Some-clause-ok
returns-in-Some-clause-ok g c =
    let op = c.args.op in
    let v = c.args.value.now.row in
    let rows = c.args.column.now.rows in
    let own = c.either-nullability.ensures ∙ (λ i. either (nullability (c.dtype.ensures.dtype i)) (nullability (c.dtype-2.ensures.dtype i))) in
    let all : replicate c.len-in-Some.result c.compared_row-truth.result ≡ compared op v rows =
    truths_same op v c.row-in-Some.result.now c.in-Some.row.now c.compared_row-truth.result rows c.len-in-Some.result c.in-Some.ensures.same c.len-in-Some.ensures c.row-in-Some.ensures.row
    c.compared_row-truth.ensures in
    subst (λ (f : Flat). IfOk c.constant_of-in-Some.result (λ x. x ≡ f)) (λ i. flat (BoolType (own i)) (all i)) c.constant_of-in-Some.ensures.ok

pub returns-in_ok-rows-in-None-clause-ok : goal.returns-in_ok-rows-in-None-clause-ok
returns-in_ok-rows-in-None-clause-ok g c =
    let own = c.either-nullability.ensures ∙ (λ i. either (nullability (c.dtype.ensures.dtype i)) (nullability (c.dtype-2.ensures.dtype i))) in
    let all = c.in_ok-rows-in-None.ensures.ok ∙ ap (λ r. compared c.args.op r c.args.column.now.rows) c.row-in-None.ensures.row in
    subst (λ (f : Flat). IfOk c.from_buffer.result (λ x. x ≡ f)) (λ i. flat (BoolType (own i)) (all i)) c.from_buffer.ensures.ok
