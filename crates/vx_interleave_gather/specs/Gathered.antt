-- Rows that selectors name, of several flat columns.
use Rattle.std.specs.Prelude.{◌≡◌, ◌⊎◌, ℕ, List, [], ◌∷◌, Bool, true, false, ◌||◌, map, length, get_or, Option, None, All}
use Rattle.vx_rows.specs.Types.{AlikeTypes, nullability, with_nullability}
use Rattle.vx_rows.specs.Fits.{is_nullable as takes_null}
use Rattle.vx_rows.specs.declared.kinds.Nullability.{Nullability}
use Rattle.vx_rows.specs.declared.kinds.Nullability.TheVariants.{NonNullable, Nullable}
use Rattle.vx_rows.specs.declared.dtype.DType.{DType}
use Rattle.vx_rows.specs.declared.dtype.DType.TheVariants as dtype
use Rattle.vx_rows.specs.declared.value.Value.{Value}
use Rattle.vx_rows.specs.declared.error.Rule.{Rule}
use Rattle.vx_rows.specs.declared.error.ColumnError.{ColumnError}
use Rattle.vx_rows.specs.declared.error.ColumnError.TheVariants.{OutOfMemory}
use Rattle.vx_base.specs.Column.{Flat, flat}
use Rattle.vx_base.specs.Rules.{Refuses}
use Rattle.vx_interleave.specs.Selections.{Selection, pairs_of}

-- the types, the rows and the lengths of columns
abbrev pub types_of : List Flat → List DType
types_of values = map (λ value. value.dtype) values

abbrev pub lists_of : List Flat → List (List (Option Value))
lists_of values = map (λ value. value.rows) values

abbrev pub lens_of : List Flat → List ℕ
lens_of values = map (λ value. length value.rows) values

-- whether a null is a row of one of the types
abbrev pub some_nullable : List DType → Bool
some_nullable [] = false
some_nullable (t ∷ ts) = takes_null (nullability t) || some_nullable ts

abbrev pub nullability_by : Bool → Nullability
nullability_by true = Nullable
nullability_by false = NonNullable

-- the first type, nullable where one of them is (none is asked for without a type)
abbrev pub gathered_type : List DType → DType
gathered_type [] = dtype.Bool NonNullable
gathered_type (t ∷ ts) = with_nullability t (nullability_by (some_nullable (t ∷ ts)))

-- all are the first up to nullability
abbrev pub AreAlike : List DType → Type 0
AreAlike [] = Unit {0}
AreAlike (t ∷ ts) = All (λ s. AlikeTypes s t) ts

-- the row that a pair names, by the number of a list and the number of a row in it
abbrev pub named : List (List (Option Value)) → ℕ × ℕ → Option Value
named lists pair = get_or (get_or lists pair.0 []) pair.1 None

-- the rows that the selectors name, in order
abbrev pub gathered_rows : List Flat → Selection → List (Option Value)
gathered_rows values selectors = map (named (lists_of values)) (pairs_of selectors)

abbrev pub gathered : List Flat → Selection → Flat
gathered values selectors = flat (gathered_type (types_of values)) (gathered_rows values selectors)

-- why nothing is gathered: memory ran out, or a rule of the selectors is broken
abbrev pub GatherCause : Option Rule → ColumnError → Type 0
GatherCause fault e = (e ≡ OutOfMemory) ⊎ Refuses fault e
