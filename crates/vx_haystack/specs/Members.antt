-- Which rows are in a set, of whatever kind.
use Rattle.std.specs.Prelude.{pos, Bool, Option}
use Rattle.vx_rows.specs.declared.value.Value.{Value}
use Rattle.vx_rows.specs.declared.kinds.PType.TheVariants as ptype
use Rattle.vx_rows.specs.Fits.{is_in_range}
use Rattle.vx_haystack.specs.declared.members.Members.{Members}
use Rattle.vx_haystack.specs.declared.members.Members.TheVariants as kinds
use Rattle.vx_haystack.specs.Keys.{of_key, row_text, row_binary, has_bytes, has_row}
use Rattle.vx_haystack.specs.Sets.{has_int, has_decimal}

-- whether the row is a value of the set
abbrev pub members_have : Members → Option Value → Bool
members_have (kinds.U8 set) row = has_int (is_in_range ptype.U8) (λ x. pos x) set row
members_have (kinds.U16 set) row = has_int (is_in_range ptype.U16) (λ x. pos x) set row
members_have (kinds.U32 set) row = has_int (is_in_range ptype.U32) (λ x. pos x) set row
members_have (kinds.U64 set) row = has_int (is_in_range ptype.U64) (λ x. pos x) set row
members_have (kinds.I8 set) row = has_int (is_in_range ptype.I8) (λ x. x) set row
members_have (kinds.I16 set) row = has_int (is_in_range ptype.I16) (λ x. x) set row
members_have (kinds.I32 set) row = has_int (is_in_range ptype.I32) (λ x. x) set row
members_have (kinds.I64 set) row = has_int (is_in_range ptype.I64) (λ x. x) set row
members_have (kinds.Decimals set) row = has_decimal set row
members_have (kinds.Texts set) row = of_key (has_bytes set) (row_text row)
members_have (kinds.Binaries set) row = of_key (has_bytes set) (row_binary row)
members_have (kinds.Rows set) row = has_row set row
