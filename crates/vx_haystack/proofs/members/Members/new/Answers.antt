use Rattle.vx_haystack.proofs.Fitting.{int_rows, decimal_rows, text_rows, binary_rows}
use Rattle.vx_haystack.proofs.members.Members.new.Goals as goal

pub of_integers-requires : goal.of_integers-requires
of_integers-requires c = int_rows c.args.dtype.now c.in-Primitive.ptype c.in-Primitive.field-1 c.args.rows.now c.in-Primitive.is c.requires

pub new-requires : goal.new-requires
new-requires c = decimal_rows c.args.dtype.now c.in-Decimal.field-0 c.in-Decimal.field-1 c.args.rows.now c.in-Decimal.is c.requires

pub of_texts-requires : goal.of_texts-requires
of_texts-requires c = text_rows c.args.dtype.now c.in-Utf8.field-0 c.args.rows.now c.in-Utf8.is c.requires

pub of_binaries-requires : goal.of_binaries-requires
of_binaries-requires c = binary_rows c.args.dtype.now c.in-Binary.field-0 c.args.rows.now c.in-Binary.is c.requires
