-- Rows that are zipped range by range.
use Rattle.std.proofs.Common.{arith, sym, ◌∙◌, ap, ◌≡◌, ◌+◌, ◌-◌, ◌≤◌, ℕ, List, [], ◌∷◌, ◌++◌, map, take, append-nil, Bool}
use Rattle.std.proofs.Math.Seq.{take-add}
use Rattle.std.specs.List.{slice_range}
use Rattle.vx_scalars.specs.Elementwise.{chosen}
use Rattle.vx_scalars.proofs.Lists.{chosen_range}
use Rattle.vx_job.specs.Rows.{Rows, joined}
use Rattle.vx_column.specs.Columns.{IsSliceOf, rows_of}
use Rattle.vx_column.specs.declared.column.Column.{Column}
use Rattle.vx_column.proofs.Cuts.{rows-append}
use Rattle.vx_pairs.specs.declared.paired.PairedRange.{PairedRange}
use Rattle.vx_pairs.specs.Pairs.{Cover}

-- where ranges begin, which end at a row
abbrev pub begins : ℕ → List PairedRange → ℕ
begins end [] = end
begins end (range ∷ ranges) = range.pos.start

pub begins_at : (from to : ℕ) (ranges : List PairedRange) → Cover from to ranges → begins to ranges ≡ from
begins_at from to [] h = sym h
begins_at from to (range ∷ ranges) h = h.0

-- what is zipped of the rows of a range
pub range_zipped : (left right : Column) (l r : Column) (choice part : List Bool) (a b : ℕ) → IsSliceOf left l a b → IsSliceOf right r a b → part ≡ slice_range choice a b →
    chosen (rows_of l) (rows_of r) part ≡ slice_range (chosen (rows_of left) (rows_of right) choice) a b
range_zipped left right l r choice part a b f g e =
    (λ i. chosen (f.rows i) (g.rows i) (e i)) ∙ sym (chosen_range (rows_of left) (rows_of right) choice a b)

pub joined_more : (xs : List Column) (x : Column) (all : Rows) (a b : ℕ) → a ≤ b → joined (map rows_of xs) ≡ take a all → rows_of x ≡ slice_range all a b →
    joined (map rows_of (xs ++ x ∷ [])) ≡ take b all
joined_more xs x all a b h e f =
    let whole : a + (b - a) ≡ b = omega arith in
    rows-append xs (x ∷ []) ∙ ap (λ (r : Rows). joined (map rows_of xs) ++ r) (append-nil (rows_of x)) ∙ (λ i. e i ++ f i)
    ∙ sym (take-add a (b - a) all) ∙ ap (λ n. take n all) whole
