use Rattle.std.proofs.Common.{◌≡◌, ◌∷◌, List, map, sym, subst}
use Rattle.std.specs.List.{All}
use Rattle.vx_job.specs.Kinds.{AreAlike}
use Rattle.vx_column.specs.Columns.{type_of}
use Rattle.vx_column.specs.declared.column.Column.{Column}
use Rattle.vx_rows.specs.Types.{AlikeTypes}
use Rattle.vx_rows.specs.declared.dtype.DType.{DType}
use Rattle.vx_column.proofs.Types.{alike_up, alike_down}
use Rattle.vx_column.proofs.kinds.are_alike.Goals as goal

pub returns-in-Some : goal.returns-in-Some
returns-in-Some c =
    let first = c.in-Some.first.now in
    let others = c.in-Some.others.now in
    let all : List Column = c.args.columns.now in
    let is : all ≡ first ∷ others = c.in-Some.ensures.cases.0 in
    let same : c.dtype.result.now ≡ type_of first = c.dtype.ensures in (
      λ yes. subst (λ (xs : List Column). AreAlike (map type_of xs)) (sym is) (alike_up first others (subst (λ (t : DType). All (λ x. AlikeTypes (type_of x) t) others) same (c.all_alike.ensures.0 yes))),
      λ alike. c.all_alike.ensures.1 (subst (λ (t : DType). All (λ x. AlikeTypes (type_of x) t) others) (sym same) (alike_down first others (subst (λ (xs : List Column). AreAlike (map type_of xs)) is alike))),
    )
