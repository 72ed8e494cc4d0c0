use Rattle.std.proofs.Common.{◌≡◌, ◌++◌, ◌∷◌, [], Bool, List, Option, take, sym, ◌∙◌, ap, arith}
use Rattle.vx_lookup.specs.Bits.{bits_where}
use Rattle.vx_lookup.proofs.Members.{where_more}
use Rattle.vx_lookup.proofs.membership.joined.Goals as goal

pub loop-i-preserved : goal.loop-i-preserved
loop-i-preserved c =
    let bits = c.args.bits.now in
    let present = c.args.present.now in
    let i = c.loop-i.i in
    c.in_ok-push.ensures.items
    ∙ ap (λ (front : List (Option Bool)). front ++ c.entry.result ∷ []) c.loop-i.invariant
    ∙ ap (λ (entry : Option Bool). bits_where (take i bits) (take i present) ++ entry ∷ []) c.entry.ensures
    ∙ sym (where_more bits present i (omega arith) c.requires)
