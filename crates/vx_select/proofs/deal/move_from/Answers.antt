use Rattle.std.proofs.Common.{arith, ap, ◌∙◌, ◌≡◌, ◌<◌, ◌++◌, ◌∷◌, length, get_or, set, []}
use Rattle.std.proofs.lemmas.List.{get_or_default}
use Rattle.vx_select.proofs.Deals.{each_on_ok}
use Rattle.vx_select.proofs.deal.move_from.Goals as goal

pub returns-clause-row : goal.returns-clause-row
returns-clause-row c =
    let lists = c.args.rows.now.items in
    let k = c.args.list in
    let last = c.index_mut-last.result.now in
    let within : k < length lists = omega arith in
    each_on_ok (λ front row. get_or lists k [] ≡ front ++ row ∷ []) (λ front row. last ≡ front ++ row ∷ [])
    (λ front row. (c.move_last_to.new.self ≡ front) × (c.move_last_to.new.other ≡ c.args.out.now ++ row ∷ []))
    (λ front row. (set lists k c.move_last_to.new.self ≡ set lists k front) × (c.move_last_to.new.other ≡ c.args.out.now ++ row ∷ [])) c.move_last_to.result
    (λ front row e. c.index_mut-last.ensures.value ∙ get_or_default lists k last [] within ∙ e) (λ front row moved. (ap (set lists k) moved.0, moved.1)) c.move_last_to.ensures.ok
