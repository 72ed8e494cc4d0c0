-- What membership in a set of rows means.
use Rattle.std.specs.Prelude.{Bool, false, List, map, Option, Some, None}
use Rattle.std.specs.List.{list_any}
use Rattle.std.specs.Ordering.{is_eq}
use Rattle.vx_rows.specs.declared.value.Value.{Value}
use Rattle.vx_rows.specs.Order.{row_cmp}

-- some row of the set is equal to the value; a null is no member
abbrev pub is_member : List (Option Value) → Option Value → Bool
is_member set None = false
is_member set (Some v) = list_any (λ element. is_eq (row_cmp element (Some v))) set

abbrev pub membership : List (Option Value) → Option Value → Option Bool
membership set None = None
membership set (Some v) = Some (is_member set (Some v))

-- for each row whether it is a member of the set, and null where the row is null
abbrev pub memberships : List (Option Value) → List (Option Value) → List (Option Bool)
memberships set rows = map (membership set) rows
