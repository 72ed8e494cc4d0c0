use Rattle.std.proofs.Common.{subst}
use Rattle.serde_json.specs.View.{view}
use Rattle.vx_json_rows.specs.Forms.{Gives}
use Rattle.vx_json_rows.proofs.Alike.{truth_rows, ranged_rows, decimals_alike, text_rows, bytes_alike}
use Rattle.vx_json_rows.proofs.rows.rows_of.Goals as goal

pub returns-in-Bool : goal.returns-in-Bool
returns-in-Bool c =
    subst (λ reading. Gives (λ rs. rs) c.truths_of.result reading)
    (truth_rows _ _ _ c.in-Bool.is c.kind_of.ensures (view c.args.value.now)) c.truths_of.ensures

pub returns-in-Primitive : goal.returns-in-Primitive
returns-in-Primitive c =
    subst (λ reading. Gives (λ rs. rs) c.integers_of.result reading)
    (ranged_rows _ _ _ _ c.in-Primitive.is c.kind_of-in-Primitive.ensures (view c.args.value.now)) c.integers_of.ensures

pub returns-in-Utf8 : goal.returns-in-Utf8
returns-in-Utf8 c =
    subst (λ reading. Gives (λ rs. rs) c.texts_of.result reading)
    (text_rows _ _ _ c.in-Utf8.is c.kind_of-in-Utf8.ensures (view c.args.value.now)) c.texts_of.ensures

pub returns-in-Decimal : goal.returns-in-Decimal
returns-in-Decimal c =
    subst (λ reading. Gives (λ rs. rs) c.decimals_of.result reading)
    (decimals_alike _ _ _ _ c.in-Decimal.is c.is_nullable.ensures (view c.args.value.now)) c.decimals_of.ensures

pub returns-in-Binary : goal.returns-in-Binary
returns-in-Binary c =
    subst (λ reading. Gives (λ rs. rs) c.binaries_of.result reading)
    (bytes_alike _ _ _ c.in-Binary.is c.kind_of-in-Binary.ensures (view c.args.value.now)) c.binaries_of.ensures
