-- The rows that a store holds.
use Rattle.std.specs.Prelude.{◌≡◌, ℕ, ℤ, pos, Bool, true, false, List, [], ◌∷◌, ◌++◌, Option, map}
use Rattle.std.specs.Option.{option_map}
use Rattle.vx_rows.specs.declared.value.Value.{Value, Bool as BoolValue, Int, Decimal, Utf8, Binary}
use Rattle.vx_buffers.specs.declared.store.Store.{Store}
use Rattle.vx_buffers.specs.declared.store.Store.TheVariants.{Bools, Ints, Longs, Decimals, Texts, Binaries, Rows}

-- the value of a number of type `u64`
abbrev pub long_value : ℕ → Value
long_value n = Int (pos n)

abbrev pub bool_rows : List (Option Bool) → List (Option Value)
bool_rows xs = map (option_map BoolValue) xs

abbrev pub int_rows : List (Option ℤ) → List (Option Value)
int_rows xs = map (option_map Int) xs

abbrev pub long_rows : List (Option ℕ) → List (Option Value)
long_rows xs = map (option_map long_value) xs

abbrev pub decimal_rows : List (Option ℤ) → List (Option Value)
decimal_rows xs = map (option_map Decimal) xs

abbrev pub text_rows : List (Option (List ℕ)) → List (Option Value)
text_rows xs = map (option_map Utf8) xs

abbrev pub binary_rows : List (Option (List ℕ)) → List (Option Value)
binary_rows xs = map (option_map Binary) xs

abbrev pub rows_of : Store → List (Option Value)
rows_of (Bools xs) = bool_rows xs
rows_of (Ints xs) = int_rows xs
rows_of (Longs xs) = long_rows xs
rows_of (Decimals xs) = decimal_rows xs
rows_of (Texts xs) = text_rows xs
rows_of (Binaries xs) = binary_rows xs
rows_of (Rows v) = v.items

-- the rows after one was offered, by whether it was taken
abbrev pub Offered : Bool → List (Option Value) → List (Option Value) → Option Value → Type 0
Offered true old new row = new ≡ old ++ row ∷ []
Offered false old new row = new ≡ old

-- the rows after more were to be appended, by whether they were
abbrev pub Extended : Bool → List (Option Value) → List (Option Value) → List (Option Value) → Type 0
Extended true old new more = new ≡ old ++ more
Extended false old new more = new ≡ old

-- the rows of two stores after the last row of the first was to be moved to the second, by whether it was
abbrev pub Moved : Bool → List (Option Value) → List (Option Value) → List (Option Value) → List (Option Value) → Type 0
Moved true from from' to to' = (row : Option Value) × (from ≡ from' ++ row ∷ []) × (to' ≡ to ++ row ∷ [])
Moved false from from' to to' = (from' ≡ from) × (to' ≡ to)
