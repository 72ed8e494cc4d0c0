use Rattle.std.proofs.Common.{◌∙◌, sym, ap}
use Rattle.std.specs.List.{list_all}
use Rattle.vx_rows.specs.Fits.{rows_fit, is_nullable}
use Rattle.vx_rows.specs.Types.{nullability}
use Rattle.vx_buffers.specs.declared.store.Store.{Store}
use Rattle.vx_buffers.specs.Fits.{valid_or}
use Rattle.vx_buffers.specs.Stores.{rows_of}
use Rattle.vx_buffers.proofs.Fits.{bools_alike, texts_alike, binaries_alike}
use Rattle.vx_buffers.proofs.fitting.store_fits.Goals as goal

pub returns-in-Bools : goal.returns-in-Bools
returns-in-Bools c =
    let t = c.args.dtype.now in
    c.all_fit.ensures
    ∙ (λ i. list_all (valid_or (is_nullable (nullability t)) (c.is_bool.ensures i)) (rows_of (c.in-Bools.is i)))
    ∙ bools_alike t _
    ∙ ap (λ (s : Store). rows_fit t (rows_of s)) (sym c.in-Bools.is)

pub returns-in-Texts : goal.returns-in-Texts
returns-in-Texts c =
    let t = c.args.dtype.now in
    c.all_fit-in-Texts.ensures
    ∙ (λ i. list_all (valid_or (is_nullable (nullability t)) (c.is_text.ensures i)) (rows_of (c.in-Texts.is i)))
    ∙ texts_alike t _
    ∙ ap (λ (s : Store). rows_fit t (rows_of s)) (sym c.in-Texts.is)

pub returns-in-Binaries : goal.returns-in-Binaries
returns-in-Binaries c =
    let t = c.args.dtype.now in
    c.all_fit-in-Binaries.ensures
    ∙ (λ i. list_all (valid_or (is_nullable (nullability t)) (c.is_binary.ensures i)) (rows_of (c.in-Binaries.is i)))
    ∙ binaries_alike t _
    ∙ ap (λ (s : Store). rows_fit t (rows_of s)) (sym c.in-Binaries.is)
