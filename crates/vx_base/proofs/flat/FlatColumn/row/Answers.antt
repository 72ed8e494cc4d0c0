use Rattle.std.proofs.Common.{ℕ, zero, suc, ◌≡◌, ◌∙◌, ◌+◌, ap, get_or, refl, List, [], ◌∷◌, Option, None}
use Rattle.vx_rows.specs.declared.value.Value.{Value}
use Rattle.vx_rows.specs.Sizes.{row_takes_memory}
use Rattle.vx_base.proofs.Windows.{stored_free}
use Rattle.vx_base.proofs.flat.FlatColumn.row.Goals as goal

same_default : {X : Type 0} (xs : List X) (k : ℕ) (d : X) → get_or xs k d ≡ get_or xs k (get_or xs k d)
same_default [] k d = refl
same_default (x ∷ xs) zero d = refl
same_default (x ∷ xs) (suc k) d = same_default xs k d

pub returns-in-Rows-clause-free : goal.returns-in-Rows-clause-free
returns-in-Rows-clause-free c h =
    let k = c.self.inside.start + c.args.i in
    let rs = c.in-Rows.rows in
    let free = stored_free c.self.inside c.args.self.now c.self.view_is c.self.invariant rs c.in-Rows.is c.args.i (get_or rs k None) (same_default rs k None) c.requires h in
    c.row.ensures.free (ap (λ (l : List (Option Value)). row_takes_memory (get_or l k None)) c.get.ensures ∙ free)
