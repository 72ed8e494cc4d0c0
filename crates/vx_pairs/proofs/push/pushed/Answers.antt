use Rattle.std.proofs.Common.{ap, ◌∙◌, map, Option}
use Rattle.vx_rows.specs.declared.value.Value.{Value}
use Rattle.vx_base.specs.Column.{Flat, flat}
use Rattle.vx_pairs.proofs.Arrays.{flat_by}
use Rattle.vx_pairs.proofs.push.pushed.Goals as goal

pub returns-clause-ok : goal.returns-clause-ok
returns-clause-ok g c =
    let f : Option Value → Option Value = λ row. g.F.RowFn.value_of c.args.f.now row c.args.siblings.now in
    let given = c.in_ok-given.ensures.ok ∙ ap (λ (r : Flat). map f r.rows) c.in_ok-rows.ensures.ok in
    flat_by c.flat.result c.in_ok-flat.flat _ c.flat.ensures.value (c.in_ok-flat.ensures.ok ∙ (λ i. flat (c.in_ok-dtype.ensures.ok i) (given i)))
