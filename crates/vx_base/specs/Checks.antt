-- What the yes-or-no checks ask of lists of numbers.
use Rattle.std.specs.Prelude.{ℕ, ◌+◌, ◌*◌, Bool, true, ◌&&◌, nat_lt, nat_le, nat_eq, List, [], ◌∷◌, Option, Some, None, is_some, count_by, slice_index}
use Rattle.std.specs.List.{list_all}
use Rattle.vx_rows.specs.declared.value.Value.{Value}

-- no row is null
abbrev pub all_valid : List (Option Value) → Bool
all_valid rows = list_all is_some rows

-- each element stands so to its successor
abbrev pub each_next : (ℕ → ℕ → Bool) → List ℕ → Bool
each_next test [] = true
each_next test (x ∷ []) = true
each_next test (x ∷ y ∷ ys) = test x y && each_next test (y ∷ ys)

-- each number is below its successor
abbrev pub strictly_increasing : List ℕ → Bool
strictly_increasing = each_next nat_lt

-- no number is above its successor
abbrev pub non_decreasing : List ℕ → Bool
non_decreasing = each_next nat_le

abbrev pub is_below : Option ℕ → ℕ → Bool
is_below None x = true
is_below (Some hi) x = nat_lt x hi

-- each number is at least `lo`, and below `hi` where there is one
abbrev pub all_within : ℕ → Option ℕ → List ℕ → Bool
all_within lo hi xs = list_all (λ x. nat_le lo x && is_below hi x) xs

-- how many of the numbers are below a bound
abbrev pub count_below : ℕ → List ℕ → ℕ
count_below bound xs = count_by (λ x. nat_lt x bound) xs

-- the first entry is the count of indices below 1024 times the first chunk, the next below 1024 times the next chunk
abbrev pub counts_below : ℕ → List ℕ → List ℕ → Bool
counts_below chunk [] indices = true
counts_below chunk (offset ∷ offsets) indices = nat_eq offset (count_below (1024 * chunk) indices) && counts_below (chunk + 1) offsets indices

-- each row number is below the length that its array number names
abbrev pub selectors_within : List ℕ → List ℕ → List ℕ → Bool
selectors_within (array ∷ arrays) (row ∷ rows) lens = nat_lt row (slice_index lens array) && selectors_within arrays rows lens
selectors_within arrays rows lens = true
