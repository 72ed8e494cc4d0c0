use Rattle.std.proofs.Common.{ap, sym, subst, ◌∙◌, length}
use Rattle.vx_rows.specs.Types.{AlikeTypes}
use Rattle.vx_base.specs.Column.{Flat, flat}
use Rattle.vx_scalars.specs.Elementwise.{chosen, chosen_type}
use Rattle.vx_column.specs.Columns.{type_of}
use Rattle.vx_pairs.proofs.Arrays.{flat_by}
use Rattle.vx_pairs.proofs.zipped.zip_rows.Goals as goal

pub zip-requires-clause-types : goal.zip-requires-clause-types
zip-requires-clause-types g c =
    subst (λ (r : Flat). AlikeTypes r.dtype c.in_ok-others.others.dtype) (sym c.in_ok-rows.ensures.ok)
    (subst (λ (r : Flat). AlikeTypes (type_of c.args.column.now) r.dtype) (sym c.in_ok-others.ensures.ok) c.requires.alike)

pub zip-requires-clause-rows : goal.zip-requires-clause-rows
zip-requires-clause-rows g c =
    ap (λ (r : Flat). length r.rows) c.in_ok-others.ensures.ok ∙ c.requires.paired ∙ sym (ap (λ (r : Flat). length r.rows) c.in_ok-rows.ensures.ok)

pub zip-requires-clause-choice : goal.zip-requires-clause-choice
zip-requires-clause-choice g c = c.requires.long ∙ sym (ap (λ (r : Flat). length r.rows) c.in_ok-rows.ensures.ok)

pub returns-clause-ok : goal.returns-clause-ok
returns-clause-ok g c =
    let left = c.in_ok-rows.ensures.ok in
    let right = c.in_ok-others.ensures.ok in
    flat_by c.flat.result c.in_ok-zipped.zipped _ c.flat.ensures.value
    (c.in_ok-zipped.ensures.ok ∙ (λ i. flat (chosen_type (left i).dtype (right i).dtype) (chosen (left i).rows (right i).rows c.args.choice.now)))
