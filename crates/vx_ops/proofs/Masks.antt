-- Rows masked piece by piece.
use Rattle.std.proofs.Common.{arith, refl, sym, ◌∙◌, ap, ◌≡◌, ◌≤◌, ◌<◌, ◌+◌, ◌-◌, ℕ, Bool, cond, List, [], ◌∷◌, ◌++◌, take, drop, length, get_or, None}
use Rattle.std.proofs.lemmas.List.{length-drop}
use Rattle.std.specs.List.{slice_range}
use Rattle.vx_rows.specs.declared.dtype.DType.{DType}
use Rattle.vx_base.specs.Column.{Flat, flat}
use Rattle.vx_bulk.specs.Selections.{masked}
use Rattle.vx_bulk.specs.Types.{nullable}
use Rattle.vx_job.specs.Rows.{Rows}
use Rattle.vx_column.specs.Columns.{type_of, rows_of, len_of}
use Rattle.vx_column.specs.declared.column.Column.{Column}
use Rattle.vx_column.proofs.Cuts.{rows_more}
use Rattle.vx_ops.specs.Chunks.{HasGained, rows_in}
use Rattle.vx_ops.proofs.Gains.{flat_more, rows_within}

pub masked_long : (rows : Rows) (keep : List Bool) → length rows ≤ length keep → length (masked rows keep) ≡ length rows
masked_long [] keep h = refl
masked_long (r ∷ rows) [] h = absurd (omega arith)
masked_long (r ∷ rows) (bit ∷ keep) h = let k = masked_long rows keep (omega arith) in omega arith

-- bits past the rows don't count
masked_front : (rows : Rows) (keep : List Bool) → length rows ≤ length keep → masked rows keep ≡ masked rows (take (length rows) keep)
masked_front [] keep h = refl
masked_front (r ∷ rows) [] h = absurd (omega arith)
masked_front (r ∷ rows) (bit ∷ keep) h = ap (λ rs. cond bit r None ∷ rs) (masked_front rows keep (omega arith))

masked_behind : (xs ys : Rows) (keep : List Bool) → length xs ≤ length keep → masked (xs ++ ys) keep ≡ masked xs keep ++ masked ys (drop (length xs) keep)
masked_behind [] ys keep h = refl
masked_behind (x ∷ xs) ys [] h = absurd (omega arith)
masked_behind (x ∷ xs) ys (bit ∷ keep) h = ap (λ rs. cond bit x None ∷ rs) (masked_behind xs ys keep (omega arith))

-- rows that stand behind others, by their own bits
pub masked_append : (xs ys : Rows) (keep : List Bool) (start end : ℕ) → start ≡ length xs → end ≡ start + length ys → end ≤ length keep →
    masked (xs ++ ys) keep ≡ masked xs keep ++ masked ys (slice_range keep start end)
masked_append xs ys keep start end e f h =
    let own : length ys ≡ end - start = omega arith in
    let there : length ys ≤ length (drop (length xs) keep) = omega (arith, length-drop (length xs) keep) in
    masked_behind xs ys keep (omega arith)
    ∙ ap (λ rs. masked xs keep ++ rs) (masked_front ys (drop (length xs) keep) there ∙ ap (λ n. masked ys (take n (drop (length xs) keep))) own ∙ ap (λ n. masked ys (take (end - start) (drop n keep))) (sym e))

-- one column more, by its own bits
pub masks_more : (t : DType) (xs : List Column) (k : ℕ) (x : Column) (keep : List Bool) (start end : ℕ) (old new : List Column) (rows : Flat) → k < length xs → x ≡ get_or xs k x → type_of x ≡ t → length keep ≡ length (rows_in xs) →
    start ≡ length (rows_in (take k xs)) → end ≡ start + len_of x → rows ≡ flat (nullable (type_of x)) (masked (rows_of x) (slice_range keep start end)) →
    HasGained (nullable t) (masked (rows_in (take k xs)) keep) [] old → HasGained rows.dtype rows.rows old new → HasGained (nullable t) (masked (rows_in (take (k + 1) xs)) keep) [] new
masks_more t xs k x keep start end old new rows h e of long s f is gained pushed =
    let own = masked (rows_of x) (slice_range keep start end) in
    let inside : end ≤ length keep = omega (arith, rows_within xs k x h e) in
    flat_more (nullable t) (masked (rows_in (take k xs)) keep) own (masked (rows_in (take (k + 1) xs)) keep) old new rows
    (is ∙ ap (λ (u : DType). flat (nullable u) own) of)
    (ap (λ (r : Rows). masked r keep) (rows_more xs k x h e) ∙ masked_append (rows_in (take k xs)) (rows_of x) keep start end s f inside) gained pushed
