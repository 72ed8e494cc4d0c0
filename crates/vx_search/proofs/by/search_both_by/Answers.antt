use Rattle.std.proofs.Common.{arith, subst, sym, ap, ◌≡◌, ◌∙◌, ℕ, ◌+◌, ◌-◌, ◌≤◌, inl, inr, IfOk}
use Rattle.std.proofs.lemmas.Result.{err_from_is_err_and}
use Rattle.vx_search.specs.Places.{index_of, search_bound}
use Rattle.vx_search.specs.Halving.{IsWhere, beside, rounds}
use Rattle.vx_search.specs.declared.result.SearchResult.TheVariants.{Found}
use Rattle.vx_search.proofs.Powers.{first_by, second_by, least_by, again_by, rounds_le}
use Rattle.vx_search.proofs.Borders.{at_border, border_ascends, inside_left, inside_right}
use Rattle.vx_search.proofs.Calls.{answers_upto, refuses_upto}
use Rattle.vx_search.proofs.by.search_both_by.Goals as goal
use Rattle.vx_search.proofs.by.search_both_by.Goals.{in-Left+in_ok-edge-in-Left, in-Right+in_ok-edge-in-Right}

pub halve_by-requires-clause-callable : goal.halve_by-requires-clause-callable
halve_by-requires-clause-callable g c =
    answers_upto g.F.FnMut c.args.len (λ _ _. Unit {0}) c.args.len (rounds c.args.len) (rounds (c.args.len - 0)) (omega arith) (rounds_le (c.args.len - 0) c.args.len (omega arith)) c.args.find c.requires.find

pub returns-in_err-place-clause-err : goal.returns-in_err-place-clause-err
returns-in_err-place-clause-err g c =
    let w = c.in_err-place.ensures.err in
    let p = err_from_is_err_and c.from_residual.result c.from_residual.ensures.1 in
    rw (p.1, p.2) (inl (refuses_upto g.F.FnMut c.args.len c.args.len (rounds (c.args.len - 0)) (rounds c.args.len) c.args.find c.in_err-place.field-0.0 (omega arith) (rounds_le (c.args.len - 0) c.args.len (omega arith)) w))

pub returns-in_err-place-clause-rise : goal.returns-in_err-place-clause-rise
returns-in_err-place-clause-rise g c = first_by c.args.steps.now c.halve_by.new.steps c.args.len c.halve_by.ensures.rise

pub returns-in-NotFound-clause-rise : goal.returns-in-NotFound-clause-rise
returns-in-NotFound-clause-rise g c = first_by c.args.steps.now c.halve_by.new.steps c.args.len c.halve_by.ensures.rise

pub halve_by-requires-in-Left-clause-callable : goal.halve_by-requires-in-Left-clause-callable
halve_by-requires-in-Left-clause-callable g c =
    let top : c.in-Found.found ≤ c.args.len = (subst (λ p. (0 ≤ index_of p) × (index_of p ≤ c.args.len)) c.in-Found.is c.in_ok-place.ensures.within).1 in
    answers_upto g.N.FnMut c.args.len (λ _ _. Unit {0}) c.in-Found.found (rounds c.args.len) (rounds (c.in-Found.found - 0)) top (rounds_le (c.in-Found.found - 0) c.args.len (omega (arith, top))) c.args.side_find c.requires.side_find

pub halve_by-requires-in-Right-clause-callable : goal.halve_by-requires-in-Right-clause-callable
halve_by-requires-in-Right-clause-callable g c =
    answers_upto g.N.FnMut c.args.len (λ _ _. Unit {0}) c.args.len (rounds c.args.len) (rounds (c.args.len - c.in-Found.found)) (omega arith) (rounds_le (c.args.len - c.in-Found.found) c.args.len (omega arith)) c.args.side_find c.requires.side_find

pub halve_by-requires-in-Right-clause-ordered : goal.halve_by-requires-in-Right-clause-ordered
halve_by-requires-in-Right-clause-ordered g c = (subst (λ p. (0 ≤ index_of p) × (index_of p ≤ c.args.len)) c.in-Found.is c.in_ok-place.ensures.within).1

pub returns-in_err-edge-in-Left-clause-err : goal.returns-in_err-edge-in-Left-clause-err
returns-in_err-edge-in-Left-clause-err g c =
    let top : c.in-Found.found ≤ c.args.len = (subst (λ p. (0 ≤ index_of p) × (index_of p ≤ c.args.len)) c.in-Found.is c.in_ok-place.ensures.within).1 in
    let w = c.in_err-edge-in-Left.ensures.err in
    let p = err_from_is_err_and c.from_residual-in_err-edge-in-Left.result c.from_residual-in_err-edge-in-Left.ensures.1 in
    rw (p.1, p.2) (inr (refuses_upto g.N.FnMut c.in-Found.found c.args.len (rounds (c.in-Found.found - 0)) (rounds c.args.len) c.args.side_find c.in_err-edge-in-Left.field-0.0 top (rounds_le (c.in-Found.found - 0) c.args.len (omega (arith, top))) w))

pub returns-in_err-edge-in-Right-clause-err : goal.returns-in_err-edge-in-Right-clause-err
returns-in_err-edge-in-Right-clause-err g c =
    let w = c.in_err-edge-in-Right.ensures.err in
    let p = err_from_is_err_and c.from_residual-in_err-edge-in-Right.result c.from_residual-in_err-edge-in-Right.ensures.1 in
    rw (p.1, p.2) (inr (refuses_upto g.N.FnMut c.args.len c.args.len (rounds (c.args.len - c.in-Found.found)) (rounds c.args.len) c.args.side_find c.in_err-edge-in-Right.field-0.0 (omega arith) (rounds_le (c.args.len - c.in-Found.found) c.args.len (omega arith)) w))

pub returns-in_err-edge-in-Left-clause-rise : goal.returns-in_err-edge-in-Left-clause-rise
returns-in_err-edge-in-Left-clause-rise g c =
    let top : c.in-Found.found ≤ c.args.len = (subst (λ p. (0 ≤ index_of p) × (index_of p ≤ c.args.len)) c.in-Found.is c.in_ok-place.ensures.within).1 in
    second_by c.args.steps.now c.halve_by.new.steps c.halve_by-in-Left.new.steps c.args.len (c.in-Found.found - 0) (omega (arith, top)) c.halve_by.ensures.rise c.halve_by-in-Left.ensures.rise

pub returns-in_err-edge-in-Right-clause-rise : goal.returns-in_err-edge-in-Right-clause-rise
returns-in_err-edge-in-Right-clause-rise g c =
    second_by c.args.steps.now c.halve_by.new.steps c.halve_by-in-Right.new.steps c.args.len (c.args.len - c.in-Found.found) (omega arith) c.halve_by.ensures.rise c.halve_by-in-Right.ensures.rise

pub returns-clause-rise : goal.returns-clause-rise
returns-clause-rise g c =
    let top : c.in-Found.found ≤ c.args.len = (subst (λ p. (0 ≤ index_of p) × (index_of p ≤ c.args.len)) c.in-Found.is c.in_ok-place.ensures.within).1 in
    let P : ℕ → Type 0 = λ s. s ≤ c.args.steps.now + search_bound c.args.len in
    elim c.match-side.branch [
      | in-Left+in_ok-edge-in-Left w ↦ subst P (sym w.steps-is) (second_by c.args.steps.now c.halve_by.new.steps w.halve_by-in-Left.new.steps c.args.len (c.in-Found.found - 0) (omega (arith, top)) c.halve_by.ensures.rise w.halve_by-in-Left.ensures.rise)
      | in-Right+in_ok-edge-in-Right w ↦ subst P (sym w.steps-is) (second_by c.args.steps.now c.halve_by.new.steps w.halve_by-in-Right.new.steps c.args.len (c.args.len - c.in-Found.found) (omega arith) c.halve_by.ensures.rise w.halve_by-in-Right.ensures.rise)
    ]

pub returns-in-NotFound-clause-least : goal.returns-in-NotFound-clause-least
returns-in-NotFound-clause-least g c = least_by c.args.steps.now c.halve_by.new.steps c.halve_by.new.steps c.args.len (omega arith) c.in_ok-place.ensures.least

pub returns-clause-least : goal.returns-clause-least
returns-clause-least g c =
    let P : ℕ → Type 0 = λ s. c.args.steps.now + rounds c.args.len ≤ s in
    elim c.match-side.branch [
      | in-Left+in_ok-edge-in-Left w ↦ subst P (sym w.steps-is) (least_by c.args.steps.now c.halve_by.new.steps w.halve_by-in-Left.new.steps c.args.len w.halve_by-in-Left.ensures.monotone c.in_ok-place.ensures.least)
      | in-Right+in_ok-edge-in-Right w ↦ subst P (sym w.steps-is) (least_by c.args.steps.now c.halve_by.new.steps w.halve_by-in-Right.new.steps c.args.len w.halve_by-in-Right.ensures.monotone c.in_ok-place.ensures.least)
    ]

pub returns-clause-again : goal.returns-clause-again
returns-clause-again g c = λ f find up.
    let n = c.args.len in
    let found = c.in-Found.found in
    let here : IsWhere f 0 n (Found found) = subst (IsWhere f 0 n) c.in-Found.is (c.in_ok-place.ensures.ok f (answers_upto g.F.FnMut n (λ k r. IfOk r (λ o. o ≡ f k)) n (rounds n) (rounds (n - 0)) (omega arith) (rounds_le (n - 0) n (omega arith)) c.args.find find) up) in
    let P : ℕ → Type 0 = λ s. c.args.steps.now + rounds n + rounds (beside c.args.side n found) ≤ s in (
      found,
      here.1,
      here.2,
      elim c.match-side.branch [
        | in-Left+in_ok-edge-in-Left w ↦ subst P (sym w.steps-is) (again_by c.args.steps.now c.halve_by.new.steps w.halve_by-in-Left.new.steps n (beside c.args.side n found) (found - 0) (ap (λ s. beside s n found) w.in-Left.is ∙ omega arith) c.in_ok-place.ensures.least w.in_ok-edge-in-Left.ensures.least)
        | in-Right+in_ok-edge-in-Right w ↦ subst P (sym w.steps-is) (again_by c.args.steps.now c.halve_by.new.steps w.halve_by-in-Right.new.steps n (beside c.args.side n found) (n - found) (ap (λ s. beside s n found) w.in-Right.is) c.in_ok-place.ensures.least w.in_ok-edge-in-Right.ensures.least)
      ],
    )

pub returns-clause-ok : goal.returns-clause-ok
returns-clause-ok g c = λ f s border find side_find up edges side.
    let here : IsWhere f 0 c.args.len (Found c.in-Found.found) = subst (IsWhere f 0 c.args.len) c.in-Found.is (c.in_ok-place.ensures.ok f (answers_upto g.F.FnMut c.args.len (λ k r. IfOk r (λ o. o ≡ f k)) c.args.len (rounds c.args.len) (rounds (c.args.len - 0)) (omega arith) (rounds_le (c.args.len - 0) c.args.len (omega arith)) c.args.find find) up) in
    elim c.match-side.branch [
      | in-Left+in_ok-edge-in-Left w ↦
          let edge : IsWhere s 0 c.in-Found.found w.in_ok-edge-in-Left.edge =
          w.in_ok-edge-in-Left.ensures.ok s (answers_upto g.N.FnMut c.args.len (λ k r. IfOk r (λ o. o ≡ s k)) c.in-Found.found (rounds c.args.len) (rounds (c.in-Found.found - 0)) (omega (arith, here.1)) (rounds_le (c.in-Found.found - 0) c.args.len (omega (arith, here.1))) c.args.side_find side_find)
          (border_ascends s c.args.len border edges c.in-Found.found (omega (arith, here.1))) in
          let below : border ≤ c.in-Found.found = inside_left f c.args.len border c.in-Found.found c.args.side w.in-Left.is side here in
          (c.to_index.ensures ∙ ap index_of w.edge-is ∙ at_border s c.args.len border 0 c.in-Found.found w.in_ok-edge-in-Left.edge edges (omega arith) below (omega (arith, here.1)) edge, (c.in-Found.found, here.1, here.2))
      | in-Right+in_ok-edge-in-Right w ↦
          let edge : IsWhere s c.in-Found.found c.args.len w.in_ok-edge-in-Right.edge =
          w.in_ok-edge-in-Right.ensures.ok s (answers_upto g.N.FnMut c.args.len (λ k r. IfOk r (λ o. o ≡ s k)) c.args.len (rounds c.args.len) (rounds (c.args.len - c.in-Found.found)) (omega arith) (rounds_le (c.args.len - c.in-Found.found) c.args.len (omega arith)) c.args.side_find side_find)
          (border_ascends s c.args.len border edges c.args.len (omega arith)) in
          let above : c.in-Found.found ≤ border = inside_right f c.args.len border c.in-Found.found c.args.side w.in-Right.is side here in
          (c.to_index.ensures ∙ ap index_of w.edge-is ∙ at_border s c.args.len border c.in-Found.found c.args.len w.in_ok-edge-in-Right.edge edges above edges.within (omega arith) edge, (c.in-Found.found, here.1, here.2))
    ]
