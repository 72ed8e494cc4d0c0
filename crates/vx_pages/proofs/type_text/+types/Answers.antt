use Rattle.std.proofs.Common.{◌++◌, length, sym, ap, ◌∙◌, arith}
use Rattle.std.proofs.lemmas.Result.{on_ok_weaker}
use Rattle.serde_json.specs.Data.{array}
use Rattle.vx_pages.specs.Tokens.{tokens_of}
use Rattle.vx_pages.specs.TypeJson.{field_json}
use Rattle.vx_pages.proofs.Lists.{all_written, opened}
use Rattle.vx_pages.proofs.TypeLists.{json_fields}
use Rattle.vx_pages.proofs.type_text.+types.Goals as goal

pub write_fields-returns-clause-ok : goal.write_fields-returns-clause-ok
write_fields-returns-clause-ok t c =
    let fields = c.args.fields.now in
    let old = c.args.out.now.tokens in
    let same = c.list-name-items.ensures in
    let begun = opened field_json fields.list old c.begin_array.new.self.tokens c.in_ok-begin_array.ensures.ok in
    on_ok_weaker c.end_array-2.result (λ e.
    all_written field_json fields.list c.loop-name.name-index _ _ _ (omega (arith, ap length same)) e c.loop-name.invariant.1
    ∙ begun ∙ ap (λ ds. old ++ tokens_of (array ds)) (sym (json_fields fields))) c.end_array-2.ensures.ok
