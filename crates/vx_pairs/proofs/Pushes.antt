-- Functions of rows, pushed through chunks.
use Rattle.std.proofs.Common.{refl, sym, ◌∙◌, ap, ◌≡◌, ◌+◌, ◌<◌, ℕ, List, [], ◌∷◌, ◌++◌, length, map, take, get_or, Option}
use Rattle.std.proofs.lemmas.List.{map-append, take_more}
use Rattle.vx_rows.specs.declared.value.Value.{Value}
use Rattle.vx_job.specs.Rows.{Rows, joined}
use Rattle.vx_column.specs.Columns.{rows_of}
use Rattle.vx_column.specs.declared.column.Column.{Column}
use Rattle.vx_pairs.specs.Laws.{PushesThrough}

pub pushes_through : PushesThrough
pushes_through g [] = refl
pushes_through g (rows ∷ lists) = ap (λ (r : Rows). map g rows ++ r) (pushes_through g lists) ∙ sym (map-append g rows (joined lists))

-- of the rows of columns
pub pushed_rows : (g : Option Value → Option Value) (xs : List Column) → joined (map (λ x. map g (rows_of x)) xs) ≡ map g (joined (map rows_of xs))
pushed_rows g [] = refl
pushed_rows g (x ∷ xs) = ap (λ (r : Rows). map g (rows_of x) ++ r) (pushed_rows g xs) ∙ sym (map-append g (rows_of x) (joined (map rows_of xs)))

-- one column more
pub pushed_more : (g : Option Value → Option Value) (xs done : List Column) (k : ℕ) (x y : Column) → k < length xs → x ≡ get_or xs k x → rows_of y ≡ map g (rows_of x) →
    map rows_of done ≡ map (λ z. map g (rows_of z)) (take k xs) → map rows_of (done ++ y ∷ []) ≡ map (λ z. map g (rows_of z)) (take (k + 1) xs)
pushed_more g xs done k x y h at given before =
    let more : take (k + 1) xs ≡ take k xs ++ x ∷ [] = take_more xs k x h ∙ ap (λ z. take k xs ++ z ∷ []) (sym at) in
    map-append rows_of done (y ∷ []) ∙ (λ i. before i ++ given i ∷ []) ∙ sym (map-append (λ z. map g (rows_of z)) (take k xs) (x ∷ []))
    ∙ ap (map (λ z. map g (rows_of z))) (sym more)
