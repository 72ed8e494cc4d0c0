-- What a haystack holds.
use Rattle.std.specs.Prelude.{◌≡◌, Option}
use Rattle.vx_base.specs.Column.{Flat}
use Rattle.vx_rows.specs.declared.value.Value.{Value}
use Rattle.vx_scalars.specs.Membership.{is_member}
use Rattle.vx_haystack.specs.declared.array.ArrayHaystack.TheInside.{Inside}
use Rattle.vx_haystack.specs.Members.{members_have}

-- the column that it was made of
abbrev pub elements_of : Inside → Flat
elements_of h = h.elements

-- the set has the members of the elements
abbrev pub IsSound : Inside → Type 0
IsSound h = (row : Option Value) → members_have h.members row ≡ is_member h.elements.rows row
