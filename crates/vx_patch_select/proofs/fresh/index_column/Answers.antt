use Rattle.std.proofs.Common.{arith, ap, ◌∙◌, ◌≡◌, ◌++◌, ◌∷◌, [], map, get_or}
use Rattle.std.proofs.lemmas.List.{take_all}
use Rattle.std.proofs.lemmas.Result.{IfOk-weaker, IfErr-weaker}
use Rattle.vx_base.specs.Column.{flat}
use Rattle.vx_rows.specs.declared.error.ColumnError.TheVariants.{OutOfMemory}
use Rattle.vx_rows.specs.Fits.{rows_fit}
use Rattle.vx_patch_select.specs.Patched.{number_type, number_row}
use Rattle.vx_patch_select.proofs.Numbers.{numbers_more, fit_more, only_memory, row_of_number}
use Rattle.vx_patch_select.proofs.fresh.index_column.Goals as goal

pub loop-number-init : goal.loop-number-init
loop-number-init c = record { rows = c.new-rows.ensures.items; fit = ap (rows_fit number_type) c.new-rows.ensures.items }

pub loop-number-preserved : goal.loop-number-preserved
loop-number-preserved c =
    let ns = c.args.numbers.now in
    let k = c.loop-number.number-index in
    let rows = c.loop-number.rows.items in
    let fits = c.type_inv.numbers k in
    let pushed : c.push.new.self.items ≡ rows ++ number_row (get_or ns k 0) ∷ [] = c.in_ok-push.ensures.items ∙ ap (λ r. rows ++ r ∷ []) (row_of_number (get_or ns k 0) (omega (arith, fits))) in
    record {
      rows = pushed ∙ numbers_more ns k rows (omega arith) c.loop-number.invariant.rows;
      fit = ap (rows_fit number_type) pushed ∙ fit_more rows (get_or ns k 0) c.loop-number.invariant.fit (omega (arith, fits));
    }

pub returns-clause-ok : goal.returns-clause-ok
returns-clause-ok c =
    let ns = c.args.numbers.now in
    let same = c.from_vec.ensures ∙ c.loop-number.invariant.rows ∙ ap (map number_row) (take_all c.loop-number.number-index ns (omega arith)) in
    IfOk-weaker c.try_new.result _ (λ made. made ≡ flat number_type (map number_row ns)) (λ made p. p.0 ∙ ap (flat number_type) same) c.try_new.ensures.ok

pub returns-clause-err : goal.returns-clause-err
returns-clause-err c =
    let fits = ap (rows_fit number_type) c.from_vec.ensures ∙ c.loop-number.invariant.fit in
    IfErr-weaker c.try_new.result _ (λ e. e ≡ OutOfMemory) (λ e why. only_memory _ e fits why) c.try_new.ensures.err
