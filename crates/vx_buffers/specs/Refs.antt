-- Rows that are lent.
use Rattle.std.specs.Prelude.{Option, Some, None}
use Rattle.vx_rows.specs.declared.value.Value.{Value, Bool as BoolValue, Int as IntValue, Decimal as DecimalValue, Utf8 as Utf8Value, Binary as BinaryValue}
use Rattle.vx_buffers.specs.declared.row_ref.RowRef.{RowRef}
use Rattle.vx_buffers.specs.declared.row_ref.RowRef.TheVariants.{Null, Bool, Int, Decimal, Utf8, Binary, Value as AnyValue}

-- the row that is lent
abbrev pub row_of_ref : RowRef → Option Value
row_of_ref Null = None
row_of_ref (Bool b) = Some (BoolValue b)
row_of_ref (Int z) = Some (IntValue z)
row_of_ref (Decimal z) = Some (DecimalValue z)
row_of_ref (Utf8 s) = Some (Utf8Value s.now)
row_of_ref (Binary s) = Some (BinaryValue s.now)
row_of_ref (AnyValue v) = Some v.now
