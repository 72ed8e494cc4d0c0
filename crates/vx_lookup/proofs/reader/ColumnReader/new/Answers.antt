use Rattle.std.proofs.Common.{subst, sym, ◌∙◌, IsTrue}
use Rattle.vx_base.specs.Numbers.{is_integer}
use Rattle.vx_column.specs.Columns.{type_of}
use Rattle.vx_column.specs.declared.column.Column.{Column}
use Rattle.vx_column.proofs.Layers.{each_plain}
use Rattle.vx_lookup.proofs.reader.ColumnReader.new.Goals as goal

pub invariant_of-result : goal.invariant_of-result
invariant_of-result c =
    (each_plain c.new.result, subst (λ (x : Column). IsTrue (is_integer (type_of x))) (sym (c.new.ensures ∙ c.in_ok-array.ensures.ok)) c.requires.integers)
