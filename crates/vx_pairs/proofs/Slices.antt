-- Slices of chunks, and the pairs that they make.
use Rattle.std.proofs.Common.{arith, refl, sym, subst, inl, inr, ◌≡◌, ◌+◌, ◌≤◌, ◌<◌, ℕ, List, [], ◌∷◌, length, map, take, get_or, Some, None}
use Rattle.std.proofs.lemmas.List.{length-map}
use Rattle.vx_rows.specs.declared.error.ColumnError.{ColumnError}
use Rattle.vx_rows.specs.declared.error.ColumnError.TheVariants.{OutOfMemory}
use Rattle.vx_base.specs.Ranges.{SliceCause}
use Rattle.vx_chunks.specs.Bounds.{total}
use Rattle.vx_chunks.specs.Plans.{IsSpan}
use Rattle.vx_chunks.proofs.Sums.{total-take_more, total-take_le}
use Rattle.vx_column.specs.Columns.{IsSliceOf, len_of, type_of}
use Rattle.vx_column.specs.declared.chunked.Chunked.{Chunked}
use Rattle.vx_column.specs.declared.column.Column.{Column}
use Rattle.vx_column.specs.declared.column.Column.TheVariants as column
use Rattle.vx_column.proofs.Cuts.{cut_one}
use Rattle.vx_pairs.specs.declared.paired.PairedRange.{PairedRange}
use Rattle.vx_pairs.specs.declared.chunks.AlignedPair.{AlignedPair}
use Rattle.vx_pairs.specs.Chunks.{ToCome, to_come, IsPairAt, IsNext, IsNextOf}

-- what is told of a chunk's length, by the chunk
pub chunk_slice : (c : Chunked Column) (k s e : ℕ) → k < length c.chunks → s < e → e ≤ get_or (map len_of c.chunks) k 0 → (x : Column) → x ≡ get_or c.chunks k x → type_of x ≡ c.dtype →
    (part : Column) → IsSliceOf x part s e → IsSliceOf (column.Chunked c) part (total (take k (map len_of c.chunks)) + s) (total (take k (map len_of c.chunks)) + e)
chunk_slice c k s e h some inside x at typed part slice =
    let lens = map len_of c.chunks in
    let before = total (take k lens) in
    let there : k < length lens = omega (arith, length-map c.chunks len_of) in
    let span : IsSpan lens (before + s) (before + e) k s k e = record {
      ordered = omega arith;
      within = there;
      front = refl;
      back = refl;
      front_within = omega arith;
      back_within = inside;
      back_full = λ all. omega (arith, all, total-take_more lens k 0 there, total-take_le lens (k + 1));
    } in
    cut_one c (before + s) (before + e) k s k e span refl (omega arith) x at typed part slice

-- the same slice, by other numbers
pub moved_slice : (whole part : Column) (a b start end : ℕ) → a ≡ start → b ≡ end → IsSliceOf whole part a b → IsSliceOf whole part start end
moved_slice whole part a b start end f g slice = subst (λ n. IsSliceOf whole part start n) g (subst (λ n. IsSliceOf whole part n b) f slice)

-- a slice inside is refused only where memory runs out
pub only_memory_slice : (len s e : ℕ) (err : ColumnError) → s ≤ e → e ≤ len → SliceCause len s e err → err ≡ OutOfMemory
only_memory_slice len s e err h k (inl memory) = memory
only_memory_slice len s e err h k (inr (inl back)) = absurd (let w = back.1 in omega arith)
only_memory_slice len s e err h k (inr (inr past)) = absurd (let w = past.2 in omega arith)

-- after the last range
pub next_none : (before after : ToCome) → before.ranges ≡ [] → after ≡ before → IsNext before after None
next_none before after none same = subst (λ (rs : List PairedRange). IsNextOf before rs after None) (sym none) same

-- the pair of the first range
pub next_some : (before after : ToCome) (range : PairedRange) (ranges : List PairedRange) (pair : AlignedPair) → before.ranges ≡ range ∷ ranges →
    IsPairAt before.left before.right range pair → after ≡ to_come before.left before.right ranges → IsNext before after (Some pair)
next_some before after range ranges pair first at rest = subst (λ (rs : List PairedRange). IsNextOf before rs after (Some pair)) (sym first) (at, rest)

-- a pair is that of a first range
pub record HasFirst (before after : ToCome) (pair : AlignedPair) : Type 0 where
  pub range : PairedRange
  pub ranges : List PairedRange
  pub first : before.ranges ≡ range ∷ ranges
  pub at : IsPairAt before.left before.right range pair
  pub rest : after ≡ to_come before.left before.right ranges

pub first_of : (before after : ToCome) (pair : AlignedPair) → IsNext before after (Some pair) → HasFirst before after pair
first_of before after pair h = by_ranges before.ranges refl h
  where
    by_ranges : (rs : List PairedRange) → before.ranges ≡ rs → IsNextOf before rs after (Some pair) → HasFirst before after pair
    by_ranges [] e h = absurd h
    by_ranges (range ∷ ranges) e h = record { range = range; ranges = ranges; first = e; at = h.0; rest = h.1 }

pub none_left : (before after : ToCome) → IsNext before after None → before.ranges ≡ []
none_left before after h = by_ranges before.ranges refl h
  where
    by_ranges : (rs : List PairedRange) → before.ranges ≡ rs → IsNextOf before rs after None → before.ranges ≡ []
    by_ranges [] e h = e
    by_ranges (range ∷ ranges) e h = absurd h
