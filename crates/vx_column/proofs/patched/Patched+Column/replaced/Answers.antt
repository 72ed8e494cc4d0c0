use Rattle.std.proofs.Common.{◌≡◌, ◌<◌, ◌∙◌, ap, sym, subst, get_or, length, None}
use Rattle.std.proofs.lemmas.Result.{IfOk-weaker}
use Rattle.vx_base.specs.Column.{Flat}
use Rattle.vx_lanes.specs.Layouts.{exception_of}
use Rattle.vx_lanes.specs.declared.layout.Layout.{Layout}
use Rattle.vx_column.specs.Columns.{rows_of}
use Rattle.vx_column.specs.declared.column.Column.TheVariants as column
use Rattle.vx_column.proofs.LaneRows.{row_absent, row_kept, row_replaced, value_stands}
use Rattle.vx_column.proofs.patched.Patched+Column.replaced.Goals as goal

pub returns-then-is_none-clause-ok : goal.returns-then-is_none-clause-ok
returns-then-is_none-clause-ok g c = sym (row_absent c.args.self.now c.args.at c.args.row (sym c.requires.row) c.if-is_none.ensures)

pub row_at-requires : goal.row_at-requires
row_at-requires g c =
    let self = c.args.self.now in
    let found = ap (λ (l : Layout). exception_of l c.args.at) (sym c.lanes.ensures.value) ∙ sym c.find.ensures.found ∙ c.in-Some.is in
    let values = c.patch_values.ensures ∙ ap (λ (l : Layout). l.patch_values) c.lanes-in-Some.ensures.value in
    subst (λ (v : Flat). c.in-Some.place < length v.rows) (sym values) (value_stands self c.args.at c.in-Some.place c.requires.sound found)

pub returns-in-None-clause-ok : goal.returns-in-None-clause-ok
returns-in-None-clause-ok g c =
    let found = ap (λ (l : Layout). exception_of l c.args.at) (sym c.lanes.ensures.value) ∙ sym c.find.ensures.found ∙ c.in-None.is in
    sym (row_kept c.args.self.now c.args.at c.args.row (sym c.requires.row) found)

pub returns-in-Some-clause-ok : goal.returns-in-Some-clause-ok
returns-in-Some-clause-ok g c =
    let self = c.args.self.now in
    let found = ap (λ (l : Layout). exception_of l c.args.at) (sym c.lanes.ensures.value) ∙ sym c.find.ensures.found ∙ c.in-Some.is in
    let values = c.patch_values.ensures ∙ ap (λ (l : Layout). l.patch_values) c.lanes-in-Some.ensures.value in
    let row = row_replaced self c.args.at c.in-Some.place c.args.row (sym c.requires.row) c.if-is_none.ensures found in
    IfOk-weaker c.row_at.result (λ r. r ≡ get_or c.patch_values.result.now.rows c.in-Some.place None) (λ r. r ≡ get_or (rows_of (column.Patched self)) c.args.at None)
    (λ r e. e ∙ ap (λ (v : Flat). get_or v.rows c.in-Some.place None) values ∙ sym row) c.row_at.ensures.ok
