use Rattle.std.proofs.Common.{take, sym, ◌∙◌, ap, ◌++◌, List, ℕ, arith}
use Rattle.std.proofs.lemmas.List.{length-take-le, take-append-drop}
use Rattle.vx_wire.proofs.VarintLemmas.{rest_at}
use Rattle.vx_wire.proofs.field.skip.Goals as goal

pub returns-clause-ok : goal.returns-clause-ok
returns-clause-ok c =
    let bytes = c.args.bytes.now in
    let count = c.args.count in
    record {
      passed = take count bytes;
      count_is = length-take-le count bytes (omega arith);
      joined = sym (take-append-drop count bytes) ∙ ap (λ (r : List ℕ). take count bytes ++ r) (sym (rest_at bytes count (omega arith)));
    }
