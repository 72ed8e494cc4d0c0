use Rattle.std.proofs.Common.{◌<◌, ◌++◌, ◌∷◌, [], List, Option, None, take, sym, ap, ◌∙◌, subst, arith, get_or}
use Rattle.vx_rows.specs.declared.value.Value.{Value}
use Rattle.vx_column.specs.declared.column.Column.{Column}
use Rattle.vx_column.specs.Columns.{rows_of, len_of, IsPlain, point_cost}
use Rattle.vx_job.specs.Rows.{picked}
use Rattle.vx_plan.proofs.Runs.{picked_more, inside_more}
use Rattle.vx_probe.specs.Probes.{probed}
use Rattle.vx_plan.proofs.run.read_points.Goals as goal

pub loop-number-preserved : goal.loop-number-preserved
loop-number-preserved g c =
    let inv = c.loop-number.invariant in
    let column = probed c.args.probe.now in
    let numbers = c.args.numbers.now in
    let k = c.loop-number.number-index in
    let read = c.in_ok-execute_scalar.ensures in
    let row = c.in_ok-execute_scalar.field-0 in
    let done = picked (rows_of column) (take k numbers) in
    record {
      reads = c.execute_scalar.ensures.same ∙ inv.reads;
      answer = c.in_ok-push.ensures.ok ∙ ap (λ (rows : List (Option Value)). rows ++ row ∷ []) inv.answer
          ∙ ap (λ (r : Option Value). done ++ r ∷ []) (read.ok ∙ ap (λ (x : Column). get_or (rows_of x) (get_or numbers k 0) None) inv.reads)
          ∙ sym (picked_more (rows_of column) numbers k (omega arith));
      inside = inside_more (len_of column) numbers k (omega arith) inv.inside (subst (λ (x : Column). get_or numbers k 0 < len_of x) inv.reads read.inside);
      rise = λ plain. omega (arith, c.execute_scalar.ensures.rise (subst IsPlain (sym inv.reads) plain), inv.rise plain, ap point_cost inv.reads);
      monotone = omega (arith, c.execute_scalar.ensures.monotone, inv.monotone);
    }
