use Rattle.std.proofs.Common.{ℕ, ◌≡◌, sym, ◌∙◌, subst}
use Rattle.std.specs.Prelude.{unwrap_or}
use Rattle.vx_patches.specs.Places.{IsIndex}
use Rattle.vx_patches.specs.Views.{index_of}
use Rattle.vx_patches.proofs.Cuts.{cut_made}
use Rattle.vx_patches.proofs.index.PatchIndex.with_cut_offsets.Goals as goal

pub invariant_of-result : goal.invariant_of-result
invariant_of-result g c =
    let i = index_of c.self.inside in
    let is : c.unwrap_or.result ≡ unwrap_or c.args.offset_within_chunk 0 = c.unwrap_or.ensures in
    subst (λ (w : ℕ). IsIndex (record { len = i.len; offset = i.offset; indices = i.indices; chunk_offsets = c.args.chunk_offsets; within = w })) (sym is)
    (cut_made i c.self.invariant c.args.chunk_offsets c.args.offset_within_chunk (sym c.cut_fault.ensures.fault ∙ c.in_default.is))

pub returns-clause-sound : goal.returns-clause-sound
returns-clause-sound g c =
    let i = index_of c.self.inside in
    let is : c.unwrap_or.result ≡ unwrap_or c.args.offset_within_chunk 0 = c.unwrap_or.ensures in
    subst (λ (w : ℕ). IsIndex (record { len = i.len; offset = i.offset; indices = i.indices; chunk_offsets = c.args.chunk_offsets; within = w })) (sym is)
    (cut_made i c.self.invariant c.args.chunk_offsets c.args.offset_within_chunk (sym c.cut_fault.ensures.fault ∙ c.in_default.is))
