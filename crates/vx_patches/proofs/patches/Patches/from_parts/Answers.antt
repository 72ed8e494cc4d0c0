use Rattle.std.proofs.Common.{sym, ◌∙◌, ◌≡◌, subst, ◌++◌}
use Rattle.std.specs.Prelude.{Option}
use Rattle.std.proofs.lemmas.Result.{err_from_is_err_and}
use Rattle.vx_rows.specs.declared.error.Rule.{Rule}
use Rattle.vx_base.specs.Rules.{Refuses}
use Rattle.vx_patches.specs.Making.{index_rules, value_rules, cut_rules, cut_fault, cut_patches_fault}
use Rattle.vx_patches.proofs.Making.{value_fault_of, refused, refused-front}
use Rattle.vx_patches.proofs.Cuts.{values_broken, cut_broken, overlay_cut}
use Rattle.vx_patches.proofs.patches.Patches.from_parts.Goals as goal

pub returns-in_err-places-clause-err : goal.returns-in_err-places-clause-err
returns-in_err-places-clause-err g c =
    let p = err_from_is_err_and c.from_residual.result c.from_residual.ensures.1 in
    rw (p.1, p.2) (refused-front (index_rules c.args.array_len c.args.offset c.args.indices)
    (value_rules c.args.indices c.args.values ++ cut_rules c.args.array_len c.args.offset c.args.indices c.args.chunk_offsets c.args.offset_within_chunk)
    c.in_err-places.field-0.0 c.in_err-places.ensures.err)

pub returns-in-Some-clause-err : goal.returns-in-Some-clause-err
returns-in-Some-clause-err g c =
    refused _ c.in-Some.rule c.malformed.result
    (values_broken c.args.array_len c.args.offset c.args.indices c.args.values (cut_rules c.args.array_len c.args.offset c.args.indices c.args.chunk_offsets c.args.offset_within_chunk) c.in-Some.rule
    c.in_ok-places.ensures.clean
    (value_fault_of c.in_ok-places.places c.indices.result.now c.args.array_len c.args.offset c.args.indices c.args.values c.indices.ensures c.in_ok-places.ensures.ok ∙ sym c.value_fault.ensures ∙ c.in-Some.is))
    c.malformed.ensures

pub returns-in_err-index-clause-err : goal.returns-in_err-index-clause-err
returns-in_err-index-clause-err g c =
    let p = err_from_is_err_and c.from_residual-in_err-index.result c.from_residual-in_err-index.ensures.1 in
    let fault : cut_patches_fault c.args.array_len c.args.offset c.args.indices c.args.values c.args.chunk_offsets c.args.offset_within_chunk
    ≡ cut_fault c.in_ok-places.places.len c.in_ok-places.places.offset c.in_ok-places.places.indices c.args.chunk_offsets c.args.offset_within_chunk =
    cut_broken c.in_ok-places.places c.args.array_len c.args.offset c.args.indices c.args.values c.args.chunk_offsets c.args.offset_within_chunk c.in_ok-places.ensures.ok c.in_ok-places.ensures.clean
    (value_fault_of c.in_ok-places.places c.indices.result.now c.args.array_len c.args.offset c.args.indices c.args.values c.indices.ensures c.in_ok-places.ensures.ok ∙ sym c.value_fault.ensures ∙ c.in_default.is) in
    rw (p.1, p.2) (subst (λ (o : Option Rule). Refuses o c.in_err-index.field-0.0) (sym fault) c.in_err-index.ensures.err)

pub invariant_of-result : goal.invariant_of-result
invariant_of-result g c =
    overlay_cut c.in_ok-index.index c.in_ok-places.places c.indices.result.now c.args.values c.args.chunk_offsets c.args.offset_within_chunk c.in_ok-index.ensures.sound c.in_ok-index.ensures.ok
    c.indices.ensures (sym c.value_fault.ensures ∙ c.in_default.is)

pub returns-clause-sound : goal.returns-clause-sound
returns-clause-sound g c =
    overlay_cut c.in_ok-index.index c.in_ok-places.places c.indices.result.now c.args.values c.args.chunk_offsets c.args.offset_within_chunk c.in_ok-index.ensures.sound c.in_ok-index.ensures.ok
    c.indices.ensures (sym c.value_fault.ensures ∙ c.in_default.is)

pub returns-clause-clean : goal.returns-clause-clean
returns-clause-clean g c =
    cut_broken c.in_ok-places.places c.args.array_len c.args.offset c.args.indices c.args.values c.args.chunk_offsets c.args.offset_within_chunk c.in_ok-places.ensures.ok c.in_ok-places.ensures.clean
    (value_fault_of c.in_ok-places.places c.indices.result.now c.args.array_len c.args.offset c.args.indices c.args.values c.indices.ensures c.in_ok-places.ensures.ok ∙ sym c.value_fault.ensures ∙ c.in_default.is)
    ∙ c.in_ok-index.ensures.clean
