-- Pairs of slices, as they are zipped one after the other.
use Rattle.std.proofs.Common.{arith, sym, ◌∙◌, ap, subst, ◌≡◌, ◌-◌, ◌≤◌, ◌<◌, ℕ, List, ◌∷◌, length, map, drop, min, Bool, Some}
use Rattle.std.proofs.lemmas.List.{length-take, length-drop}
use Rattle.std.proofs.lemmas.List.Elements.{All-head, All-tail}
use Rattle.std.specs.List.{All, slice_range}
use Rattle.std.specs.declared.ops.Range.{Range}
use Rattle.vx_rows.specs.Types.{AlikeTypes}
use Rattle.vx_rows.specs.declared.dtype.DType.{DType}
use Rattle.vx_base.specs.Column.{Flat, flat}
use Rattle.vx_scalars.specs.Elementwise.{chosen, chosen_type}
use Rattle.vx_job.specs.Rows.{Rows}
use Rattle.vx_column.specs.Columns.{IsSliceOf, len_of, type_of, rows_of, flat_of}
use Rattle.vx_column.specs.declared.chunked.Chunked.{Chunked}
use Rattle.vx_column.specs.declared.column.Column.{Column}
use Rattle.vx_column.specs.declared.column.Column.TheVariants as column
use Rattle.vx_column.proofs.Cuts.{total_is}
use Rattle.vx_pairs.specs.declared.paired.PairedRange.{PairedRange}
use Rattle.vx_pairs.specs.declared.chunks.AlignedPair.{AlignedPair}
use Rattle.vx_pairs.specs.Pairs.{IsPair, Cover}
use Rattle.vx_pairs.specs.Chunks.{ToCome, IsNext}
use Rattle.vx_pairs.proofs.Ranges.{pair_within}
use Rattle.vx_pairs.proofs.Slices.{first_of}
use Rattle.vx_pairs.proofs.Zips.{begins, begins_at, range_zipped}

-- the slices of both columns
pub record IsPart (left right : Chunked Column) (pair : AlignedPair) : Type 0 where
  pub ordered : pair.pos.start ≤ pair.pos.end
  pub within : pair.pos.end ≤ len_of (column.Chunked left)
  pub left_is : IsSliceOf (column.Chunked left) pair.left pair.pos.start pair.pos.end
  pub right_is : IsSliceOf (column.Chunked right) pair.right pair.pos.start pair.pos.end

pub part_of : (left right : Chunked Column) (before after : ToCome) (pair : AlignedPair) → before.left ≡ column.Chunked left → before.right ≡ column.Chunked right →
    All (IsPair (map len_of left.chunks) (map len_of right.chunks)) before.ranges → IsNext before after (Some pair) → IsPart left right pair
part_of left right before after pair l r each h =
    let lens = map len_of left.chunks in
    let others = map len_of right.chunks in
    let first = first_of before after pair h in
    let range = first.range in
    let is : IsPair lens others range = All-head (IsPair lens others) range first.ranges (subst (All (IsPair lens others)) first.first each) in
    let at = first.at in
    let some : range.pos.start ≤ range.pos.end = omega (arith, is.some) in
    let inside : range.pos.end ≤ len_of (column.Chunked left) = omega (arith, pair_within lens others range is, total_is left) in
    record {
      ordered = subst (λ (p : Range ℕ). p.start ≤ p.end) (sym at.pos) some;
      within = subst (λ (p : Range ℕ). p.end ≤ len_of (column.Chunked left)) (sym at.pos) inside;
      left_is = subst (λ (w : Column). IsSliceOf w pair.left pair.pos.start pair.pos.end) l (subst (λ (p : Range ℕ). IsSliceOf before.left pair.left p.start p.end) (sym at.pos) at.left_is);
      right_is = subst (λ (w : Column). IsSliceOf w pair.right pair.pos.start pair.pos.end) r (subst (λ (p : Range ℕ). IsSliceOf before.right pair.right p.start p.end) (sym at.pos) at.right_is);
    }

-- what is left after a pair begins where it ends
pub record HasNext (n : ℕ) (before after : ToCome) (pair : AlignedPair) : Type 0 where
  pub left_same : after.left ≡ before.left
  pub right_same : after.right ≡ before.right
  pub from : begins n before.ranges ≡ pair.pos.start
  pub to : begins n after.ranges ≡ pair.pos.end
  pub cover : Cover (begins n after.ranges) n after.ranges
  pub fewer : length after.ranges < length before.ranges

pub next_of : (n : ℕ) (before after : ToCome) (pair : AlignedPair) → Cover (begins n before.ranges) n before.ranges → IsNext before after (Some pair) → HasNext n before after pair
next_of n before after pair cover h =
    let first = first_of before after pair h in
    let range = first.range in
    let ranges = first.ranges in
    let rest : after.ranges ≡ ranges = ap (λ (p : ToCome). p.ranges) first.rest in
    let all : Cover (begins n (range ∷ ranges)) n (range ∷ ranges) = subst (λ (rs : List PairedRange). Cover (begins n rs) n rs) first.first cover in
    let next : Cover range.pos.end n ranges = all.1 in
    let to_range : begins n ranges ≡ range.pos.end = begins_at range.pos.end n ranges next in
    record {
      left_same = ap (λ (p : ToCome). p.left) first.rest;
      right_same = ap (λ (p : ToCome). p.right) first.rest;
      from = ap (begins n) first.first ∙ ap (λ (p : Range ℕ). p.start) (sym first.at.pos);
      to = ap (begins n) rest ∙ to_range ∙ ap (λ (p : Range ℕ). p.end) (sym first.at.pos);
      cover = subst (λ (rs : List PairedRange). Cover (begins n rs) n rs) (sym rest) (subst (λ k. Cover k n ranges) (sym to_range) next);
      fewer = omega (arith, ap length first.first, ap length rest);
    }

pub each_next : (P : PairedRange → Type 0) (before after : ToCome) (pair : AlignedPair) → All P before.ranges → IsNext before after (Some pair) → All P after.ranges
each_next P before after pair each h =
    let first = first_of before after pair h in
    subst (All P) (sym (ap (λ (p : ToCome). p.ranges) first.rest)) (All-tail P first.range first.ranges (subst (All P) first.first each))

-- slices of lists of one length by the same rows are equally long
pub slices_long : {A B : Type 0} (xs : List A) (ys : List B) (a b : ℕ) → length xs ≡ length ys → length (slice_range xs a b) ≡ length (slice_range ys a b)
slices_long xs ys a b e =
    length-take (b - a) (drop a xs) ∙ ap (min (b - a)) (length-drop a xs ∙ ap (λ n. n - a) e ∙ sym (length-drop a ys)) ∙ sym (length-take (b - a) (drop a ys))

module _ (left right : Chunked Column) (pair : AlignedPair) (is : IsPart left right pair) where
  pub part_long : (choice part : List Bool) → length choice ≡ len_of (column.Chunked left) → part ≡ slice_range choice pair.pos.start pair.pos.end → length part ≡ len_of pair.left
  part_long choice part long e =
      ap length e ∙ slices_long choice (rows_of (column.Chunked left)) pair.pos.start pair.pos.end long ∙ ap length (sym is.left_is.rows)

  pub part_paired : len_of (column.Chunked right) ≡ len_of (column.Chunked left) → len_of pair.right ≡ len_of pair.left
  part_paired same =
      ap length is.right_is.rows ∙ slices_long (rows_of (column.Chunked right)) (rows_of (column.Chunked left)) pair.pos.start pair.pos.end same ∙ ap length (sym is.left_is.rows)

  pub part_alike : AlikeTypes (type_of (column.Chunked left)) (type_of (column.Chunked right)) → AlikeTypes (type_of pair.left) (type_of pair.right)
  part_alike alike =
      subst (λ (t : DType). AlikeTypes t (type_of pair.right)) (sym is.left_is.dtype) (subst (λ (t : DType). AlikeTypes (type_of (column.Chunked left)) t) (sym is.right_is.dtype) alike)

  pub part_type : (x : Column) (rows : Rows) → flat_of x ≡ flat (chosen_type (type_of pair.left) (type_of pair.right)) rows →
      type_of x ≡ chosen_type (type_of (column.Chunked left)) (type_of (column.Chunked right))
  part_type x rows e = ap (λ (f : Flat). f.dtype) e ∙ (λ i. chosen_type (is.left_is.dtype i) (is.right_is.dtype i))

  pub part_rows : (x : Column) (t : DType) (choice part : List Bool) → part ≡ slice_range choice pair.pos.start pair.pos.end → flat_of x ≡ flat t (chosen (rows_of pair.left) (rows_of pair.right) part) →
      rows_of x ≡ slice_range (chosen (rows_of (column.Chunked left)) (rows_of (column.Chunked right)) choice) pair.pos.start pair.pos.end
  part_rows x t choice part e f =
      ap (λ (g : Flat). g.rows) f ∙ range_zipped (column.Chunked left) (column.Chunked right) pair.left pair.right choice part pair.pos.start pair.pos.end is.left_is is.right_is e
