use Rattle.std.proofs.Common.{sym, ◌∙◌}
use Rattle.std.proofs.lemmas.Result.{IfErr-weaker, on_ok_weaker}
use Rattle.vx_base.specs.Rules.{Refuses}
use Rattle.vx_patches.specs.Making.{index_rules, chunk_rules, index_fault, chunk_fault}
use Rattle.vx_patches.proofs.Making.{places_made, broken-front, broken-append, refused, refused-behind}
use Rattle.vx_patches.proofs.index.PatchIndex.try_new.Goals as goal

pub returns-in-Some-clause-err : goal.returns-in-Some-clause-err
returns-in-Some-clause-err c =
    refused _ c.in-Some.rule c.malformed.result
    (broken-front (index_rules c.args.array_len c.args.offset c.args.indices) (chunk_rules c.args.array_len c.args.offset c.args.indices c.args.chunk_offsets) c.in-Some.rule (sym c.places_fault.ensures ∙ c.in-Some.is)) c.malformed.ensures

pub invariant_of-places : goal.invariant_of-places
invariant_of-places c = places_made c.args.array_len c.args.offset c.args.indices (sym c.places_fault.ensures ∙ c.in_default.is)

pub returns-clause-err : goal.returns-clause-err
returns-clause-err c =
    IfErr-weaker c.with_chunk_offsets.result (Refuses (chunk_fault c.args.array_len c.args.offset c.args.indices c.args.chunk_offsets)) (Refuses (index_fault c.args.array_len c.args.offset c.args.indices c.args.chunk_offsets))
    (λ e r. refused-behind (index_rules c.args.array_len c.args.offset c.args.indices) (chunk_rules c.args.array_len c.args.offset c.args.indices c.args.chunk_offsets) e (sym c.places_fault.ensures ∙ c.in_default.is) r)
    c.with_chunk_offsets.ensures.err

pub returns-clause-clean : goal.returns-clause-clean
returns-clause-clean c =
    on_ok_weaker c.with_chunk_offsets.result
    (λ none. broken-append (index_rules c.args.array_len c.args.offset c.args.indices) (chunk_rules c.args.array_len c.args.offset c.args.indices c.args.chunk_offsets) (sym c.places_fault.ensures ∙ c.in_default.is) ∙ none)
    c.with_chunk_offsets.ensures.clean
