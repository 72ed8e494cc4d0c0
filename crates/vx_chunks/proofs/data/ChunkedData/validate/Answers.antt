use Rattle.std.proofs.Common.{ap, subst, sym, ◌∙◌, ◌≡◌, ◌∷◌, [], ◌++◌, ◌+◌, take}
use Rattle.std.specs.List.{All}
use Rattle.std.proofs.lemmas.List.{take_more, take_all}
use Rattle.std.proofs.lemmas.List.Elements.{All-nil, All-push}
use Rattle.vx_rows.specs.declared.dtype.DType.{DType}
use Rattle.vx_chunks.proofs.data.ChunkedData.validate.Goals as goal

pub loop-chunk_type-init : goal.loop-chunk_type-init
loop-chunk_type-init c = All-nil (λ (t : DType). t ≡ c.args.dtype.now)

pub loop-chunk_type-preserved : goal.loop-chunk_type-preserved
loop-chunk_type-preserved c =
    let ts = c.args.chunk_types.now in
    let k = c.loop-chunk_type.chunk_type-index in
    let t = c.chunk_type-item.result in
    let more : take k ts ++ t ∷ [] ≡ take (k + 1) ts = ap (λ y. take k ts ++ y ∷ []) c.chunk_type-item.is ∙ sym (take_more ts k t c.loop-chunk_type-test.true) in
    subst (All (λ (t : DType). t ≡ c.args.dtype.now)) more
    (All-push (λ (t : DType). t ≡ c.args.dtype.now) (take k ts) t c.loop-chunk_type.invariant (c.same_type.ensures.0 c.if-not-same_type.false))

pub returns-clause-ok : goal.returns-clause-ok
returns-clause-ok c = subst (All (λ (t : DType). t ≡ c.args.dtype.now)) (take_all _ c.args.chunk_types.now c.loop-chunk_type-test.false) c.loop-chunk_type.invariant
