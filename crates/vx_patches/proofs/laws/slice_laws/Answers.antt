use Rattle.vx_patches.specs.Pairs.{pairs_of}
use Rattle.vx_patches.proofs.Chains.{chain_slices}
use Rattle.vx_patches.proofs.Insides.{chain_pairs}
use Rattle.vx_patches.proofs.laws.slice_laws.Goals as goal

pub returns-clause-pairs : goal.returns-clause-pairs
returns-clause-pairs c = λ o start end from to h. chain_pairs start end from to h (pairs_of o)

pub returns-clause-chain : goal.returns-clause-chain
returns-clause-chain c = chain_slices
