use Rattle.std.proofs.Common.{◌≡◌, ◌-◌, arith, sym, ap, ◌∙◌, get_or, None, true, false}
use Rattle.std.specs.Option.{is_some}
use Rattle.std.proofs.lemmas.List.{get_or_default}
use Rattle.vx_lanes.proofs.Overlays.{laid_out, laid_set, laid_null}
use Rattle.vx_lanes.proofs.lanes.Lanes.lay.Goals as goal

pub returns-then-place-offset-clause-each : goal.returns-then-place-offset-clause-each
returns-then-place-offset-clause-each g c = λ row h. laid_out c.args.self.now c.args.exception c.args.place row (get_or c.args.rows.now row None) (λ e. omega arith)

pub returns-then-row-rows-clause-each : goal.returns-then-row-rows-clause-each
returns-then-row-rows-clause-each g c = λ row h. laid_out c.args.self.now c.args.exception c.args.place row (get_or c.args.rows.now row None) (λ e. omega arith)

pub returns-then-not-is_value-clause-each : goal.returns-then-not-is_value-clause-each
returns-then-not-is_value-clause-each g c =
    let is_null : is_some (get_or c.args.rows.now (c.args.place - c.offset-offset.result) None) ≡ false = ap is_some (get_or_default c.args.rows.now (c.args.place - c.offset-offset.result) None c.index-rows-row.result (omega arith)) ∙ sym c.is_value.ensures ∙ c.if-not-is_value.true in
    λ row h. laid_null c.args.self.now c.args.exception c.args.place (c.args.place - c.offset-offset.result) c.args.rows.now (omega arith) is_null row

pub returns-clause-each : goal.returns-clause-each
returns-clause-each g c =
    let some : is_some (get_or c.args.rows.now (c.args.place - c.offset-offset.result) None) ≡ true = ap is_some (get_or_default c.args.rows.now (c.args.place - c.offset-offset.result) None c.index-rows-row.result (omega arith)) ∙ sym c.is_value.ensures ∙ c.if-not-is_value.false in
    λ row h. laid_set c.args.self.now c.args.exception c.args.place (c.args.place - c.offset-offset.result) c.args.rows.now c.value_at.result c.value_at.ensures.value (omega arith) (omega arith) some row
