-- What selections of exceptions answer.
use Rattle.std.specs.Prelude.{ℕ, pos, ◌≡◌, ◌≢◌, ◌⊎◌, Bool, List, [], ◌∷◌, map, Option, Some, None}
use Rattle.vx_rows.specs.declared.dtype.DType.{DType}
use Rattle.vx_rows.specs.declared.dtype.DType.TheVariants.{Primitive}
use Rattle.vx_rows.specs.declared.kinds.Nullability.TheVariants.{NonNullable}
use Rattle.vx_rows.specs.declared.kinds.PType.TheVariants.{U64}
use Rattle.vx_rows.specs.declared.value.Value.{Value}
use Rattle.vx_rows.specs.declared.value.Value.TheVariants.{Int}
use Rattle.vx_rows.specs.declared.error.ColumnError.{ColumnError}
use Rattle.vx_rows.specs.declared.error.ColumnError.TheVariants.{OutOfMemory, LengthMismatch}
use Rattle.vx_base.specs.Column.{Flat, flat}
use Rattle.vx_bulk.specs.Types.{nullable}
use Rattle.vx_masks.specs.Bits.{count_true}
use Rattle.vx_patches.specs.Making.{made}
use Rattle.vx_patches.specs.Places.{indices_of}
use Rattle.vx_patches.specs.Pairs.{Overlay, overlay, pairs_by, pairs_of, firsts}
use Rattle.vx_patch_select.specs.Selected.{unmasked_pairs}

-- the type of indices that are made
abbrev pub number_type : DType
number_type = Primitive U64 NonNullable

abbrev pub number_row : ℕ → Option Value
number_row n = Some (Int (pos n))

-- numbers of 64 bits as a column
abbrev pub numbers_flat : List ℕ → Flat
numbers_flat ns = flat number_type (map number_row ns)

-- exceptions of so many rows, made of new indices and values: offset 0, and no chunk offsets
abbrev pub fresh : ℕ → List ℕ → Flat → Overlay
fresh len indices values = overlay (made len 0 (numbers_flat indices) None) values

-- pairs as exceptions of so many rows, and none where there is no pair
abbrev pub of_pairs : ℕ → DType → List (ℕ × Option Value) → Option Overlay
of_pairs len dtype [] = None
of_pairs len dtype (pair ∷ pairs) = Some (fresh len (firsts (pair ∷ pairs)) (flat dtype (map (λ p. p.1) (pair ∷ pairs))))

-- the pairs that are left, if any
abbrev pub pairs_left : Option Overlay → List (ℕ × Option Value)
pairs_left None = []
pairs_left (Some o) = pairs_of o

-- what a mask leaves where some exception is left: those whose row has no true bit, of as many rows and with the same indices, from
-- the same offset on. A null may be one of their values. Where no bit is true, chunk offsets stay too, and else there are none
pub record AreUnmasked (bits : List Bool) (o left : Overlay) : Type 0 where
  pub some : unmasked_pairs bits (pairs_of o) ≢ []
  pub pairs : pairs_of left ≡ unmasked_pairs bits (pairs_of o)
  pub values : left.values.dtype ≡ nullable o.values.dtype
  pub len : left.index.len ≡ o.index.len
  pub offset : left.index.offset ≡ o.index.offset
  pub indices : left.index.indices.dtype ≡ o.index.indices.dtype
  pub numbers : indices_of left.index ≡ map (λ p. p.1) (unmasked_pairs bits (pairs_by o.index (indices_of o.index)))
  pub whole : count_true bits ≡ 0 → left.index ≡ o.index
  pub dropped : count_true bits ≢ 0 → left.index.chunk_offsets ≡ None

-- what a mask leaves: nothing where each pair's row has a true bit
abbrev pub IsUnmasked : List Bool → Overlay → Option Overlay → Type 0
IsUnmasked bits o None = unmasked_pairs bits (pairs_of o) ≡ []
IsUnmasked bits o (Some left) = AreUnmasked bits o left

-- why a mask is refused: its length isn't the number of rows, or memory is wanted
abbrev pub MaskCause : ℕ → ℕ → ColumnError → Type 0
MaskCause len found e = (e ≡ OutOfMemory) ⊎ ((e ≡ LengthMismatch len found) × (found ≢ len))
