use Rattle.std.proofs.Common.{◌∙◌, sym, ap, reverse}
use Rattle.vx_rows.specs.declared.value.Value.{Bool as BoolValue, Int, Decimal, Utf8, Binary}
use Rattle.vx_buffers.specs.declared.store.Store.{Store}
use Rattle.vx_buffers.specs.Stores.{rows_of, bool_rows, int_rows, long_rows, decimal_rows, text_rows, binary_rows, long_value}
use Rattle.vx_buffers.proofs.Cells.{on_ok}
use Rattle.vx_buffers.proofs.Rows.{reverse_rows}
use Rattle.vx_buffers.proofs.store.Store.reverse.Goals as goal

pub returns-in-Bools-clause-ok : goal.returns-in-Bools-clause-ok
returns-in-Bools-clause-ok c =
    on_ok c.reverse.result (λ e. ap bool_rows e ∙ reverse_rows BoolValue c.in-Bools.truths ∙ ap (λ (s : Store). reverse (rows_of s)) (sym c.in-Bools.is)) c.reverse.ensures.ok

pub returns-in-Ints-clause-ok : goal.returns-in-Ints-clause-ok
returns-in-Ints-clause-ok c =
    on_ok c.reverse-in-Ints.result (λ e. ap int_rows e ∙ reverse_rows Int c.in-Ints.numbers ∙ ap (λ (s : Store). reverse (rows_of s)) (sym c.in-Ints.is)) c.reverse-in-Ints.ensures.ok

pub returns-in-Longs-clause-ok : goal.returns-in-Longs-clause-ok
returns-in-Longs-clause-ok c =
    on_ok c.reverse-in-Longs.result (λ e. ap long_rows e ∙ reverse_rows long_value c.in-Longs.numbers ∙ ap (λ (s : Store). reverse (rows_of s)) (sym c.in-Longs.is)) c.reverse-in-Longs.ensures.ok

pub returns-in-Decimals-clause-ok : goal.returns-in-Decimals-clause-ok
returns-in-Decimals-clause-ok c =
    on_ok c.reverse-in-Decimals.result (λ e. ap decimal_rows e ∙ reverse_rows Decimal c.in-Decimals.unscaled ∙ ap (λ (s : Store). reverse (rows_of s)) (sym c.in-Decimals.is)) c.reverse-in-Decimals.ensures.ok

pub returns-in-Texts-clause-ok : goal.returns-in-Texts-clause-ok
returns-in-Texts-clause-ok c =
    on_ok c.reverse-in-Texts.result (λ e. ap text_rows e ∙ reverse_rows Utf8 c.in-Texts.texts ∙ ap (λ (s : Store). reverse (rows_of s)) (sym c.in-Texts.is)) c.reverse-in-Texts.ensures.ok

pub returns-in-Binaries-clause-ok : goal.returns-in-Binaries-clause-ok
returns-in-Binaries-clause-ok c =
    on_ok c.reverse-in-Binaries.result (λ e. ap binary_rows e ∙ reverse_rows Binary c.in-Binaries.binaries ∙ ap (λ (s : Store). reverse (rows_of s)) (sym c.in-Binaries.is)) c.reverse-in-Binaries.ensures.ok
