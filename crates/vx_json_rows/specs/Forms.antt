-- Reading forms out of JSON values: what a value of a form is, where it is one.
use Rattle.std.specs.Prelude.{◌≡◌, ℕ, ℤ, ◌==◌, List, [], ◌∷◌, Bool, if◌then◌else◌, Result, Ok, Err, ⊤}
use Rattle.std.specs.Prelude.{Option, Some, None, is_some, option_map}
use Rattle.serde_json.specs.Data.{Data, Items, no_items, item, Members}
use Rattle.serde_json.specs.Find.{get, as_null, as_number, as_array, as_object, as_u64, as_integer}
use Rattle.serde_json.specs.Events.{members_len}
use Rattle.vx_json_rows.specs.declared.forms.Unread.{Unread}
use Rattle.vx_json_rows.specs.declared.forms.Unread.TheVariants.{NoForm, OutOfMemory}

-- the second reading, where the first has a value
infixl 10 ◌>>=◌
abbrev pub ◌>>=◌ : {A B : Type 0} → Option A → (A → Option B) → Option B
None >>= f = None
(Some x) >>= f = f x

-- what a failure says of a reading: it has no value, or memory ran out
abbrev pub Fails : {Y : Type 0} → Unread → Option Y → Type 0
Fails (NoForm reason) reading = reading ≡ None
Fails OutOfMemory reading = Unit {0}

-- what a function returned, seen by `seen`, is what the reading gives, unless memory ran out
abbrev pub Gives : {X Y : Type 0} → (X → Y) → Result X Unread → Option Y → Type 0
Gives seen (Ok x) reading = reading ≡ Some (seen x)
Gives seen (Err e) reading = Fails e reading

-- n members
abbrev pub has_len : ℕ → Members → Option ⊤
has_len n ms = if members_len ms == n then Some tt else None

-- an object of n members: where each of n keys is found in it, it has these keys and no other
abbrev pub object_of : ℕ → Data → Option ⊤
object_of n d = as_object d >>= has_len n

-- whether an object has this key
abbrev pub has : List ℕ → Data → Bool
has key d = is_some (get key d)

-- a whole number that is not negative
abbrev pub whole_of : Data → Option ℕ
whole_of d = as_number d >>= as_u64

-- a whole number of either sign
abbrev pub integer_of : Data → Option ℤ
integer_of d = as_number d >>= as_integer

-- `null` itself, and any other value is read by f
abbrev pub null_or : {X : Type 0} → (Data → Option X) → Data → Option (Option X)
null_or f d = if is_some (as_null d) then Some None else (f d >>= λ x. Some (Some x))

-- each item, read by f
abbrev pub all_items : {X : Type 0} → (Data → Option X) → Items → Option (List X)
all_items f no_items = Some []
all_items f (item d ds) = f d >>= λ x. option_map (λ xs. x ∷ xs) (all_items f ds)

-- a list of items that are read by f
abbrev pub list_of : {X : Type 0} → (Data → Option X) → Data → Option (List X)
list_of f d = as_array d >>= all_items f

-- exactly two items, of which f reads the first and g the second
abbrev pub two_items : {X Y : Type 0} → (Data → Option X) → (Data → Option Y) → Items → Option (X × Y)
two_items f g no_items = None
two_items f g (item d no_items) = None
two_items f g (item d (item e no_items)) = f d >>= λ x. g e >>= λ y. Some (x, y)
two_items f g (item d (item e (item h ds))) = None

-- a list of two items, of which f reads the first and g the second
abbrev pub pair_of : {X Y : Type 0} → (Data → Option X) → (Data → Option Y) → Data → Option (X × Y)
pair_of f g d = as_array d >>= two_items f g
