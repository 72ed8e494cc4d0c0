-- The order of rows: nulls first, then by kind, then within the kind.
use Rattle.std.specs.Prelude.{ℕ, List, Option, Some, None}
use Rattle.std.specs.declared.cmp.Ordering.{Ordering}
use Rattle.std.specs.declared.cmp.Ordering.TheVariants.{Less, Equal, Greater}
use Rattle.std.specs.Ordering.{nat_cmp, int_cmp, bool_cmp}
use Rattle.std.specs.Cmp.Lexicographic.{slice_cmp}
use Rattle.vx_rows.specs.declared.value.Value.{Value, fold-Value, out-Value}
use Rattle.vx_rows.specs.declared.value.Value.TheOpen.{Value-F}

-- a null comes before a value
abbrev pub option_cmp : {A B : Type 0} → (A → B → Ordering) → Option A → Option B → Ordering
option_cmp R None None = Equal
option_cmp R None (Some y) = Less
option_cmp R (Some x) None = Greater
option_cmp R (Some x) (Some y) = R x y

-- the place of a kind among the kinds
abbrev pub kind_rank : {A : Type 0} → Value-F A → ℕ
kind_rank (Value-F.Bool b) = 0
kind_rank (Value-F.Int z) = 1
kind_rank (Value-F.Decimal z) = 2
kind_rank (Value-F.Utf8 s) = 3
kind_rank (Value-F.Binary s) = 4
kind_rank (Value-F.List rs) = 5
kind_rank (Value-F.Struct rs) = 6

-- one level: `R` compares what lies within
abbrev pub layer_cmp : {A B : Type 0} → (A → B → Ordering) → Value-F A → Value-F B → Ordering
layer_cmp R (Value-F.Bool a) (Value-F.Bool b) = bool_cmp a b
layer_cmp R (Value-F.Int a) (Value-F.Int b) = int_cmp a b
layer_cmp R (Value-F.Decimal a) (Value-F.Decimal b) = int_cmp a b
layer_cmp R (Value-F.Utf8 a) (Value-F.Utf8 b) = slice_cmp nat_cmp a b
layer_cmp R (Value-F.Binary a) (Value-F.Binary b) = slice_cmp nat_cmp a b
layer_cmp R (Value-F.List a) (Value-F.List b) = slice_cmp (option_cmp R) a b
layer_cmp R (Value-F.Struct a) (Value-F.Struct b) = slice_cmp (option_cmp R) a b
layer_cmp R a b = nat_cmp (kind_rank a) (kind_rank b)

abbrev pub apply_to : Value-F (Value → Ordering) → Value → Ordering
apply_to x v = layer_cmp (λ f w. f w) x (out-Value v)

abbrev pub value_cmp : Value → Value → Ordering
value_cmp = fold-Value (Value → Ordering) apply_to

abbrev pub row_cmp : Option Value → Option Value → Ordering
row_cmp = option_cmp value_cmp

abbrev pub rows_cmp : List (Option Value) → List (Option Value) → Ordering
rows_cmp = slice_cmp row_cmp
