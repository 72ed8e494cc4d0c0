-- What copies of all rows cost.
use Rattle.std.proofs.Common.{◌≡◌, ℕ, zero, suc, ◌+◌, ◌*◌, ◌≤◌, ◌<◌, List, [], ◌∷◌, ◌++◌, Option, map, length, take, get_or, sym, ◌∙◌, ap, subst, arith, length-append, append_assoc}
use Rattle.std.proofs.lemmas.List.{take_more}
use Rattle.std.proofs.Math.Nat.{mul-le-mul, mul-le-mul_left, le_refl}
use Rattle.vx_rows.specs.declared.value.Value.{Value}
use Rattle.vx_chunks.specs.Bounds.{total}
use Rattle.vx_column.specs.Columns.{rows_of, len_of, point_cost, lane_cost, lane_entries, select_bound}
use Rattle.vx_job.specs.Rows.{greatest, lane_reads}
use Rattle.vx_column.specs.declared.chunked.Chunked.{Chunked}
use Rattle.vx_column.specs.declared.patched.Patched.{Patched}
use Rattle.vx_column.specs.declared.column.Column.{Column}
use Rattle.vx_column.specs.declared.column.Column.TheVariants as column
use Rattle.vx_column.proofs.Layers.{lane_chunked, rows_chunked, point_patched, lane_patched}
use Rattle.vx_column.proofs.Cuts.{rows_in, rows_more, rows_part, greatest_at, point_cost_is}

total_append : (f : Column → ℕ) (xs ys : List Column) → total (map f (xs ++ ys)) ≡ total (map f xs) + total (map f ys)
total_append f [] ys = omega arith
total_append f (x ∷ xs) ys = omega (arith, total_append f xs ys)

total_more : (f : Column → ℕ) (xs : List Column) (k : ℕ) (x : Column) → k < length xs → x ≡ get_or xs k x → total (map f (take (k + 1) xs)) ≡ total (map f (take k xs)) + f x
total_more f xs k x h e =
    let more : take (k + 1) xs ≡ take k xs ++ x ∷ [] = take_more xs k x h ∙ ap (λ y. take k xs ++ y ∷ []) (sym e) in
    let one : total (map f (x ∷ [])) ≡ f x = omega arith in
    ap (λ ys. total (map f ys)) more ∙ total_append f (take k xs) (x ∷ []) ∙ ap (λ n. total (map f (take k xs)) + n) one

total_front : (f : Column → ℕ) (k : ℕ) (xs : List Column) → total (map f (take k xs)) ≤ total (map f xs)
total_front f zero xs = omega arith
total_front f (suc k) [] = omega arith
total_front f (suc k) (x ∷ xs) = omega (arith, total_front f k xs)

step : (old mid new a b p most s t : ℕ) → mid ≤ old + (8 * a * most + s) → new ≤ mid + (8 * b * p + t) → p ≤ most → new ≤ old + (8 * (a + b) * most + (s + t))
step old mid new a b p most s t h k l = omega (arith, h, k, mul-le-mul_left (8 * b) l)

-- the rows of one chunk more
pub append_next : (c : Chunked Column) (xs : List Column) (k : ℕ) (x : Column) (old mid new : ℕ) → xs ≡ c.chunks → k < length xs → x ≡ get_or xs k x →
    mid ≤ old + (8 * length (rows_in (take k xs)) * point_cost (column.Chunked c) + total (map lane_cost (take k xs))) → new ≤ mid + select_bound x (len_of x) →
    new ≤ old + (8 * length (rows_in (take (k + 1) xs)) * point_cost (column.Chunked c) + total (map lane_cost (take (k + 1) xs)))
append_next c xs k x old mid new same h e rise read =
    let most = point_cost (column.Chunked c) in
    let most_here : point_cost x ≤ most = omega (arith, greatest_at point_cost xs k x h e, point_cost_is c, ap (λ ys. greatest (map point_cost ys)) same) in
    let rows : length (rows_in (take (k + 1) xs)) ≡ length (rows_in (take k xs)) + len_of x = ap length (rows_more xs k x h e) ∙ length-append (rows_in (take k xs)) (rows_of x) in
    let next = step old mid new (length (rows_in (take k xs))) (len_of x) (point_cost x) most (total (map lane_cost (take k xs))) (lane_cost x) rise read most_here in
    subst (λ n. new ≤ old + (8 * n * most + total (map lane_cost (take (k + 1) xs)))) (sym rows)
    (subst (λ n. new ≤ old + (8 * (length (rows_in (take k xs)) + len_of x) * most + n)) (sym (total_more lane_cost xs k x h e)) next)

-- the rows of the first chunks cost no more than all
pub append_bound : (c : Chunked Column) (xs : List Column) (k : ℕ) (old new : ℕ) → xs ≡ c.chunks →
    new ≤ old + (8 * length (rows_in (take k xs)) * point_cost (column.Chunked c) + total (map lane_cost (take k xs))) → new ≤ old + select_bound (column.Chunked c) (len_of (column.Chunked c))
append_bound c xs k old new same rise =
    let most = point_cost (column.Chunked c) in
    let all : length (rows_in xs) ≡ len_of (column.Chunked c) = ap (λ ys. length (rows_in ys)) same ∙ ap length (sym (rows_chunked c)) in
    let few : 8 * length (rows_in (take k xs)) ≤ 8 * len_of (column.Chunked c) = omega (arith, rows_part xs k, all) in
    let lanes : total (map lane_cost (take k xs)) ≤ lane_cost (column.Chunked c) = omega (arith, total_front lane_cost k xs, ap (λ ys. total (map lane_cost ys)) same, lane_chunked c) in
    omega (arith, rise, lanes, mul-le-mul few (le_refl most))

-- rows behind rows: what stands before, and one piece more
pub appended_next : (old front out rows next more : List (Option Value)) → out ≡ old ++ front → next ≡ out ++ rows → more ≡ front ++ rows → next ≡ old ++ more
appended_next old front out rows next more before ok is = ok ∙ ap (λ r. r ++ rows) before ∙ append_assoc old front rows ∙ ap (λ r. old ++ r) (sym is)

-- all of them
pub appended_all : (old front out all : List (Option Value)) → out ≡ old ++ front → front ≡ all → out ≡ old ++ all
appended_all old front out all before is = before ∙ ap (λ r. old ++ r) is

-- the rows under lanes, and then one pass over these and the lanes
pub patched_bound : (p : Patched Column) (x : Column) (n m : ℕ) → x ≡ p.inner → m ≡ n → select_bound x m + lane_entries p.lanes + n ≤ select_bound (column.Patched p) n
patched_bound p x n m same len =
    let r = lane_reads p.lanes.n_lanes in
    let q = point_cost p.inner in
    let whole : 8 * n * point_cost (column.Patched p) ≡ 8 * n * (r + q) = ap (λ (k : ℕ). 8 * n * k) (point_patched p) in
    let inner : select_bound x m ≡ 8 * n * q + lane_cost p.inner = ap (λ (y : Column). select_bound y m) same ∙ ap (λ (k : ℕ). 8 * k * q + lane_cost p.inner) len in
    let more : 8 * n * 1 ≤ 8 * n * r = mul-le-mul_left (8 * n) (omega arith) in
    omega (arith, whole, inner, more, lane_patched p)
