-- Where a value belongs in a sorted list, by how each element stands to it.
use Rattle.std.specs.Prelude.{ℕ, zero, suc, ◌+◌, ◌*◌, ◌^◌, List, count_by, cond, nat_le, nat_eq, ◌-◌, Option, Some, None}
use Rattle.std.specs.List.{list_any}
use Rattle.std.specs.declared.cmp.Ordering.{Ordering}
use Rattle.std.specs.Ordering.{is_lt, is_le, is_eq}
use Rattle.vx_search.specs.declared.result.SearchResult.{SearchResult}
use Rattle.vx_search.specs.declared.result.SearchResult.TheVariants.{Found, NotFound}
use Rattle.vx_search.specs.declared.result.SearchSortedSide.{SearchSortedSide}
use Rattle.vx_search.specs.declared.result.SearchSortedSide.TheVariants.{Left, Right}

-- Left: how many are less; Right: how many are not greater
abbrev pub count_before : SearchSortedSide → List Ordering → ℕ
count_before Left os = count_by is_lt os
count_before Right os = count_by is_le os

-- found where one is equal
abbrev pub place : SearchSortedSide → List Ordering → SearchResult
place side os = cond (list_any is_eq os) (Found (count_before side os)) (NotFound (count_before side os))

-- the least c' from c on, tried as often as the first number says, with n at most 2 to the power c'
unfoldable pub power_from : ℕ → ℕ → ℕ → ℕ
power_from zero c n = c
power_from (suc tries) c n = cond (nat_le n (2 ^ c)) c (power_from tries (c + 1) n)

-- 0 for 0, else 2c + 2, where 2^c is the least power of two not below n
unfoldable pub search_bound : ℕ → ℕ
search_bound zero = 0
search_bound (suc n) = 2 * power_from (suc n) 0 (suc n) + 2

-- the place, found or not
abbrev pub index_of : SearchResult → ℕ
index_of (Found i) = i
index_of (NotFound i) = i

-- the place where found
abbrev pub to_found : SearchResult → Option ℕ
to_found (Found i) = Some i
to_found (NotFound i) = None

-- the place before, but the place itself where it was found on the left and is not the end
abbrev pub offsets_index : SearchResult → ℕ → SearchSortedSide → ℕ
offsets_index (Found i) len Left = cond (nat_eq i len) (i - 1) i
offsets_index (Found i) len Right = i - 1
offsets_index (NotFound i) len side = i - 1

-- the place, but the one before for the end
abbrev pub ends_index : SearchResult → ℕ → ℕ
ends_index r len = cond (nat_eq (index_of r) len) (index_of r - 1) (index_of r)
