use Rattle.std.proofs.Common.{ap, sym, subst, ◌∙◌, length}
use Rattle.vx_rows.specs.Types.{AlikeTypes}
use Rattle.vx_base.specs.Column.{Flat, flat}
use Rattle.vx_scalars.specs.Elementwise.{chosen, chosen_type}
use Rattle.vx_column.specs.Columns.{type_of}
use Rattle.vx_column.specs.declared.column.Column.TheVariants as column
use Rattle.vx_pairs.proofs.zipped.zip_by_chunks.Goals as goal

pub zip_chunks-requires-clause-long : goal.zip_chunks-requires-clause-long
zip_chunks-requires-clause-long g c = c.requires.long ∙ sym (ap (λ (r : Flat). length r.rows) c.in_ok-left.ensures.ok)

pub zip_chunks-requires-clause-paired : goal.zip_chunks-requires-clause-paired
zip_chunks-requires-clause-paired g c =
    ap (λ (r : Flat). length r.rows) c.in_ok-right.ensures.ok ∙ c.requires.paired ∙ sym (ap (λ (r : Flat). length r.rows) c.in_ok-left.ensures.ok)

pub zip_chunks-requires-clause-alike : goal.zip_chunks-requires-clause-alike
zip_chunks-requires-clause-alike g c =
    subst (λ (r : Flat). AlikeTypes r.dtype (type_of (column.Chunked c.in_ok-right.right))) (sym c.in_ok-left.ensures.ok)
    (subst (λ (r : Flat). AlikeTypes (type_of c.args.column.now) r.dtype) (sym c.in_ok-right.ensures.ok) c.requires.alike)

pub returns-clause-ok : goal.returns-clause-ok
returns-clause-ok g c =
    let left = c.in_ok-left.ensures.ok in
    let right = c.in_ok-right.ensures.ok in
    c.in_ok-array.ensures.ok ∙ (λ i. flat (chosen_type (left i).dtype (right i).dtype) (chosen (left i).rows (right i).rows c.args.choice.now))
