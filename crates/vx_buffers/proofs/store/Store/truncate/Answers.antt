use Rattle.std.proofs.Common.{◌∙◌, sym, ap, take}
use Rattle.vx_rows.specs.declared.value.Value.{Bool as BoolValue, Int, Decimal, Utf8, Binary}
use Rattle.vx_buffers.specs.declared.store.Store.{Store}
use Rattle.vx_buffers.specs.Stores.{rows_of, bool_rows, int_rows, long_rows, decimal_rows, text_rows, binary_rows, long_value}
use Rattle.vx_buffers.proofs.Rows.{take_rows}
use Rattle.vx_buffers.proofs.store.Store.truncate.Goals as goal

pub returns-in-Bools : goal.returns-in-Bools
returns-in-Bools c =
    ap bool_rows c.truncate.ensures
    ∙ take_rows BoolValue c.args.count c.in-Bools.truths
    ∙ ap (λ (s : Store). take c.args.count (rows_of s)) (sym c.in-Bools.is)

pub returns-in-Ints : goal.returns-in-Ints
returns-in-Ints c =
    ap int_rows c.truncate-in-Ints.ensures
    ∙ take_rows Int c.args.count c.in-Ints.numbers
    ∙ ap (λ (s : Store). take c.args.count (rows_of s)) (sym c.in-Ints.is)

pub returns-in-Longs : goal.returns-in-Longs
returns-in-Longs c =
    ap long_rows c.truncate-in-Longs.ensures
    ∙ take_rows long_value c.args.count c.in-Longs.numbers
    ∙ ap (λ (s : Store). take c.args.count (rows_of s)) (sym c.in-Longs.is)

pub returns-in-Decimals : goal.returns-in-Decimals
returns-in-Decimals c =
    ap decimal_rows c.truncate-in-Decimals.ensures
    ∙ take_rows Decimal c.args.count c.in-Decimals.unscaled
    ∙ ap (λ (s : Store). take c.args.count (rows_of s)) (sym c.in-Decimals.is)

pub returns-in-Texts : goal.returns-in-Texts
returns-in-Texts c =
    ap text_rows c.truncate-in-Texts.ensures
    ∙ take_rows Utf8 c.args.count c.in-Texts.texts
    ∙ ap (λ (s : Store). take c.args.count (rows_of s)) (sym c.in-Texts.is)

pub returns-in-Binaries : goal.returns-in-Binaries
returns-in-Binaries c =
    ap binary_rows c.truncate-in-Binaries.ensures
    ∙ take_rows Binary c.args.count c.in-Binaries.binaries
    ∙ ap (λ (s : Store). take c.args.count (rows_of s)) (sym c.in-Binaries.is)
