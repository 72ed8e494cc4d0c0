-- The pairs of two chunked columns that are still to come, and the next of them.
use Rattle.std.specs.Prelude.{◌≡◌, List, [], ◌∷◌, map, refl, Option, Some, None}
use Rattle.std.specs.Coded.{Coded, code_by, coded×, coded_list}
use Rattle.vx_column.specs.declared.chunked.Chunked.{Chunked}
use Rattle.vx_column.specs.declared.column.Column.{Column}
use Rattle.vx_column.specs.declared.column.Column.TheVariants as column
use Rattle.vx_column.specs.contracts.column.Column as column_row
use Rattle.vx_column.specs.Columns.{len_of, chunks_of, IsSliceOf}
use Rattle.vx_pairs.specs.declared.paired.PairedRange.{PairedRange}
use Rattle.vx_pairs.specs.contracts.paired.PairedRange as range_row
use Rattle.vx_pairs.specs.declared.chunks.AlignedPair.{AlignedPair}
use Rattle.vx_pairs.specs.Pairs.{ArePairs}

-- two columns, and the ranges whose slices are to come
pub record ToCome : Type 0 where
  pub left : Column
  pub right : Column
  pub ranges : List PairedRange

abbrev pub to_come : Column → Column → List PairedRange → ToCome
to_come left right ranges = record { left = left; right = right; ranges = ranges }

abbrev pub to_come_code : Coded ToCome
to_come_code =
    code_by (Column × (Column × List PairedRange)) (coded× column_row.the_row.coded (coded× column_row.the_row.coded (coded_list range_row.the_row.coded)))
    (λ p. (p.left, (p.right, p.ranges))) (λ p. to_come p.0 p.1.0 p.1.1) (λ _. refl)

-- all pairs of these two
pub record AreAllPairs (left right : Chunked Column) (pairs : ToCome) : Type 0 where
  pub left_is : pairs.left ≡ column.Chunked left
  pub right_is : pairs.right ≡ column.Chunked right
  pub ranges : ArePairs (map len_of (chunks_of left)) (map len_of (chunks_of right)) pairs.ranges

-- the rows of the range, of both columns
pub record IsPairAt (left right : Column) (range : PairedRange) (pair : AlignedPair) : Type 0 where
  pub pos : pair.pos ≡ range.pos
  pub left_is : IsSliceOf left pair.left range.pos.start range.pos.end
  pub right_is : IsSliceOf right pair.right range.pos.start range.pos.end

-- the pair of the first range, of which the others are left, or none where there is no range
abbrev pub IsNextOf : ToCome → List PairedRange → ToCome → Option AlignedPair → Type 0
IsNextOf before [] after None = after ≡ before
IsNextOf before [] after (Some pair) = ⊥
IsNextOf before (range ∷ ranges) after None = ⊥
IsNextOf before (range ∷ ranges) after (Some pair) = IsPairAt before.left before.right range pair × (after ≡ to_come before.left before.right ranges)

abbrev pub IsNext : ToCome → ToCome → Option AlignedPair → Type 0
IsNext before after pair = IsNextOf before before.ranges after pair
