use Rattle.std.proofs.Common.{◌≡◌, ℕ, ◌<◌, ◌∙◌, sym, ap, arith, length, get_or, Option, None, Some}
use Rattle.std.proofs.lemmas.List.{get_or_default}
use Rattle.vx_rows.specs.declared.value.Value.{Value}
use Rattle.vx_lanes.specs.Layouts.{replaced, value_of}
use Rattle.vx_lane_select.proofs.Under.{entry_laid, entries_missed}
use Rattle.vx_lane_select.proofs.kept.lay.Goals as goal

pub returns-in-Some-clause-each : goal.returns-in-Some-clause-each
returns-in-Some-clause-each g c =
    let l = c.args.lanes.now in
    let k : ℕ = c.in-Some.k in
    let inside : k < length c.args.rows.now = omega (arith, c.in-Some.ensures.there, c.requires.len) in
    let old : get_or c.args.rows.now k c.index-rows-k.result ≡ get_or c.args.rows.now k None = get_or_default c.args.rows.now k c.index-rows-k.result None inside in
    entry_laid l c.args.exception c.args.place k c.args.kept.now c.args.rows.now c.replace.new.entry (c.replace.ensures.entry ∙ ap (λ (o : Option Value). replaced o (Some (value_of l c.args.exception))) old) c.requires.rising c.in-Some.ensures.stands inside c.requires.len

pub returns-in-None-clause-each : goal.returns-in-None-clause-each
returns-in-None-clause-each g c = entries_missed c.args.lanes.now c.args.exception c.args.place c.args.kept.now c.args.rows.now c.in-None.ensures.none c.requires.len
