-- What rows are looked up by: a number, or bytes.
use Rattle.std.specs.Prelude.{ℕ, ℤ, Bool, true, false, cond, ◌&&◌, List, [], ◌∷◌, Option, Some, None, is_some}
use Rattle.std.specs.Option.{option_to_list}
use Rattle.std.specs.List.{flat_map, list_any}
use Rattle.std.specs.Ordering.{is_eq, nat_cmp}
use Rattle.std.specs.Cmp.Lexicographic.{slice_cmp}
use Rattle.vx_rows.specs.Order.{row_cmp}
use Rattle.vx_rows.specs.declared.value.Value.{Value, out-Value}
use Rattle.vx_rows.specs.declared.value.Value.TheOpen.{Value-F}

abbrev pub layer_decimal : {A : Type 0} → Value-F A → Option ℤ
layer_decimal (Value-F.Decimal z) = Some z
layer_decimal x = None

-- the unscaled number of a decimal
abbrev pub row_decimal : Option Value → Option ℤ
row_decimal None = None
row_decimal (Some v) = layer_decimal (out-Value v)

abbrev pub layer_text : {A : Type 0} → Value-F A → Option (List ℕ)
layer_text (Value-F.Utf8 s) = Some s
layer_text x = None

-- the bytes of a text
abbrev pub row_text : Option Value → Option (List ℕ)
row_text None = None
row_text (Some v) = layer_text (out-Value v)

abbrev pub layer_binary : {A : Type 0} → Value-F A → Option (List ℕ)
layer_binary (Value-F.Binary s) = Some s
layer_binary x = None

-- the bytes of a byte string
abbrev pub row_binary : Option Value → Option (List ℕ)
row_binary None = None
row_binary (Some v) = layer_binary (out-Value v)

abbrev pub layer_bytes : {A : Type 0} → Value-F A → Option (List ℕ)
layer_bytes (Value-F.Utf8 s) = Some s
layer_bytes (Value-F.Binary s) = Some s
layer_bytes x = None

-- the bytes of a text or of a byte string
abbrev pub row_bytes : Option Value → Option (List ℕ)
row_bytes None = None
row_bytes (Some v) = layer_bytes (out-Value v)

-- the keys of the rows that have one
abbrev pub keys_of : {K : Type 0} → (Option Value → Option K) → List (Option Value) → List K
keys_of key rows = flat_map (λ r. option_to_list (key r)) rows

-- whether there is a key, and it passes the test
abbrev pub of_key : {K : Type 0} → (K → Bool) → Option K → Bool
of_key test None = false
of_key test (Some k) = test k

-- whether the row is null, or has a key that passes the test
abbrev pub fits_key : {K : Type 0} → (K → Bool) → (Option Value → Option K) → Option Value → Bool
fits_key test key None = true
fits_key test key (Some v) = of_key test (key (Some v))

-- a key, where it passes the test
abbrev pub only : {K : Type 0} → (K → Bool) → K → Option K
only test k = cond (test k) (Some k) None

-- a key, where there is one and it passes the test
abbrev pub passing_key : {K : Type 0} → (K → Bool) → Option K → List K
passing_key test None = []
passing_key test (Some k) = option_to_list (only test k)

-- the keys of the rows that have one that passes the test
abbrev pub passing : {K : Type 0} → (K → Bool) → (Option Value → Option K) → List (Option Value) → List K
passing test key rows = flat_map (λ r. passing_key test (key r)) rows

-- whether the bytes are among those of a set
abbrev pub has_bytes : List (List ℕ) → List ℕ → Bool
has_bytes set bytes = list_any (λ k. is_eq (slice_cmp nat_cmp k bytes)) set

-- whether the row is a value that the order calls equal to one of the rows
abbrev pub has_row : List (Option Value) → Option Value → Bool
has_row rows row = is_some row && list_any (λ e. is_eq (row_cmp e row)) rows

abbrev pub value_of : Option Value → List (Option Value)
value_of None = []
value_of (Some v) = Some v ∷ []

-- the rows that are no null
abbrev pub values_of : List (Option Value) → List (Option Value)
values_of rows = flat_map value_of rows
