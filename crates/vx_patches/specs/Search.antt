-- Searches among the rows of exceptions, and what they cost.
use Rattle.std.specs.Prelude.{ℕ, ◌+◌, ◌-◌, ◌≤◌, ◌<◌, List, length, slice_index, Option, Some, None}
use Rattle.std.specs.Ordering.{nat_cmp}
use Rattle.vx_base.specs.Column.{Flat}
use Rattle.vx_search.specs.Answers.{standing}
use Rattle.vx_search.specs.Places.{place, search_bound}
use Rattle.vx_search.specs.declared.result.SearchResult.{SearchResult}
use Rattle.vx_search.specs.declared.result.SearchSortedSide.TheVariants.{Left}
use Rattle.vx_patches.specs.Places.{Index, indices_of}

-- the place of a row among rows that rise: found, or where it belongs
abbrev pub place_among : List ℕ → ℕ → SearchResult
place_among rows row = place Left (standing nat_cmp rows row)

-- a value that is in the list stands from start to below end
pub record IsBetween (xs : List ℕ) (v start end : ℕ) : Type 0 where
  pub ordered : start ≤ end
  pub inside : end ≤ length xs
  pub low : 0 < start → slice_index xs (start - 1) < v
  pub high : end < length xs → v < slice_index xs end

-- at most so many chunk offsets are read in a search
abbrev pub offset_reads : Option Flat → ℕ
offset_reads (Some offsets) = 3
offset_reads None = 0

-- and at most so many comparisons made among m exceptions
abbrev pub comparisons : Option Flat → ℕ → ℕ
comparisons (Some offsets) m = 22
comparisons None m = search_bound m

-- what a search raises the steps by, at most
abbrev pub search_cost : Index → ℕ
search_cost index = offset_reads index.chunk_offsets + comparisons index.chunk_offsets (length (indices_of index))
