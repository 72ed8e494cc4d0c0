use Rattle.std.proofs.Common.{sym, ◌∙◌}
use Rattle.vx_patches.specs.Views.{index_of}
use Rattle.vx_patches.proofs.Making.{offsets_made}
use Rattle.vx_patches.proofs.index.PatchIndex.with_chunk_offsets.Goals as goal

pub invariant_of-result : goal.invariant_of-result
invariant_of-result c = offsets_made (index_of c.self.inside) c.self.invariant c.args.chunk_offsets (sym c.chunk_fault.ensures ∙ c.in_default.is)

pub returns-clause-sound : goal.returns-clause-sound
returns-clause-sound c = offsets_made (index_of c.self.inside) c.self.invariant c.args.chunk_offsets (sym c.chunk_fault.ensures ∙ c.in_default.is)
