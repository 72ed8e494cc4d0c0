use Rattle.std.proofs.Common.{arith, subst, sym, ap, ◌≡◌, ◌∙◌, ℕ, ◌+◌, ◌-◌, ◌*◌, ◌≤◌, length}
use Rattle.vx_search.specs.Answers.{standing}
use Rattle.vx_search.specs.Places.{place, index_of, search_bound}
use Rattle.vx_search.specs.Halving.{asked_at, Ascends, IsWhere}
use Rattle.vx_search.specs.declared.search.Question.TheVariants.{Whole, Below, NotAbove}
use Rattle.vx_search.specs.declared.result.SearchResult.TheVariants.{Found, NotFound}
use Rattle.vx_search.proofs.Powers.{first_rise, second_rise}
use Rattle.vx_search.proofs.Counts.{place_none, place_left, place_right, ascends_asked, ascends_upto, ascends_standing, length_standing}
use Rattle.vx_search.proofs.search.search_both.Goals as goal
use Rattle.vx_search.proofs.search.search_both.Goals.{in-Left+in_ok-edge-in-Left, in-Right+in_ok-edge-in-Right}

pub halve-requires-clause-ascends : goal.halve-requires-clause-ascends
halve-requires-clause-ascends g c =
    let xs = g.S.IndexOrd.sequence c.args.seq.now in
    let v = c.args.value.now in
    let up = ascends_standing g.S.IndexOrd.stands xs v c.requires in
    λ i j h k. up i j h (omega (arith, c.index_len-len.ensures))

pub returns-in_err-place-clause-rise : goal.returns-in_err-place-clause-rise
returns-in_err-place-clause-rise g c =
    first_rise c.args.steps.now c.halve.new.steps (g.S.IndexOrd.cmp_cost c.args.seq.now) c.index_len-len.result (length (g.S.IndexOrd.sequence c.args.seq.now)) c.index_len-len.ensures c.halve.ensures.rise

pub returns-in-NotFound-clause-ok : goal.returns-in-NotFound-clause-ok
returns-in-NotFound-clause-ok g c =
    let xs = g.S.IndexOrd.sequence c.args.seq.now in
    let v = c.args.value.now in
    let os = standing g.S.IndexOrd.stands xs v in
    let all : length os ≡ c.index_len-len.result = length_standing g.S.IndexOrd.stands xs v ∙ sym c.index_len-len.ensures in
    let here : IsWhere (asked_at Whole os) 0 c.index_len-len.result (NotFound c.in-NotFound.place) = subst (IsWhere (asked_at Whole os) 0 c.index_len-len.result) c.in-NotFound.is c.in_ok-place.ensures.ok in
    place_none c.args.side os c.in-NotFound.place (subst (λ n. IsWhere (asked_at Whole os) 0 n (NotFound c.in-NotFound.place)) (sym all) here)

pub returns-in-NotFound-clause-rise : goal.returns-in-NotFound-clause-rise
returns-in-NotFound-clause-rise g c =
    first_rise c.args.steps.now c.halve.new.steps (g.S.IndexOrd.cmp_cost c.args.seq.now) c.index_len-len.result (length (g.S.IndexOrd.sequence c.args.seq.now)) c.index_len-len.ensures c.halve.ensures.rise

pub halve-requires-in-Left-clause-ascends : goal.halve-requires-in-Left-clause-ascends
halve-requires-in-Left-clause-ascends g c =
    let xs = g.S.IndexOrd.sequence c.args.seq.now in
    let v = c.args.value.now in
    let os = standing g.S.IndexOrd.stands xs v in
    let n = length xs in
    let found = c.in-Found.found in
    let here : IsWhere (asked_at Whole os) 0 c.index_len-len.result (Found found) = subst (IsWhere (asked_at Whole os) 0 c.index_len-len.result) c.in-Found.is c.in_ok-place.ensures.ok in
    let up : Ascends (asked_at Whole os) n = ascends_standing g.S.IndexOrd.stands xs v c.requires in
    let mine : Ascends (asked_at Below os) found = ascends_upto (asked_at Below os) n found (omega (arith, here.1, c.index_len-len.ensures)) (ascends_asked Below os n up) in
    subst (λ s. Ascends (asked_at Below (standing g.S.IndexOrd.stands s v)) found) (sym c.halve.ensures.same) mine

pub returns-in_err-edge-in-Left-clause-rise : goal.returns-in_err-edge-in-Left-clause-rise
returns-in_err-edge-in-Left-clause-rise g c =
    let xs = g.S.IndexOrd.sequence c.args.seq.now in
    let os = standing g.S.IndexOrd.stands xs c.args.value.now in
    let found = c.in-Found.found in
    let here : IsWhere (asked_at Whole os) 0 c.index_len-len.result (Found found) = subst (IsWhere (asked_at Whole os) 0 c.index_len-len.result) c.in-Found.is c.in_ok-place.ensures.ok in
    second_rise c.args.steps.now c.halve.new.steps c.halve-in-Left.new.steps (g.S.IndexOrd.cmp_cost c.args.seq.now) (g.S.IndexOrd.cmp_cost c.halve.new.seq) c.index_len-len.result (length xs) (found - 0)
    c.index_len-len.ensures (omega (arith, here.1)) c.halve.ensures.same_cost c.halve.ensures.rise c.halve-in-Left.ensures.rise

pub halve-requires-in-Right-clause-ascends : goal.halve-requires-in-Right-clause-ascends
halve-requires-in-Right-clause-ascends g c =
    let xs = g.S.IndexOrd.sequence c.args.seq.now in
    let v = c.args.value.now in
    let os = standing g.S.IndexOrd.stands xs v in
    let n = length xs in
    let up : Ascends (asked_at Whole os) n = ascends_standing g.S.IndexOrd.stands xs v c.requires in
    let mine : Ascends (asked_at NotAbove os) c.index_len-len.result = ascends_upto (asked_at NotAbove os) n c.index_len-len.result (omega (arith, c.index_len-len.ensures)) (ascends_asked NotAbove os n up) in
    subst (λ s. Ascends (asked_at NotAbove (standing g.S.IndexOrd.stands s v)) c.index_len-len.result) (sym c.halve.ensures.same) mine

pub returns-in_err-edge-in-Right-clause-rise : goal.returns-in_err-edge-in-Right-clause-rise
returns-in_err-edge-in-Right-clause-rise g c =
    let xs = g.S.IndexOrd.sequence c.args.seq.now in
    second_rise c.args.steps.now c.halve.new.steps c.halve-in-Right.new.steps (g.S.IndexOrd.cmp_cost c.args.seq.now) (g.S.IndexOrd.cmp_cost c.halve.new.seq) c.index_len-len.result (length xs) (c.index_len-len.result - c.in-Found.found)
    c.index_len-len.ensures (omega arith) c.halve.ensures.same_cost c.halve.ensures.rise c.halve-in-Right.ensures.rise

pub returns-clause-ok : goal.returns-clause-ok
returns-clause-ok g c =
    let xs = g.S.IndexOrd.sequence c.args.seq.now in
    let v = c.args.value.now in
    let os = standing g.S.IndexOrd.stands xs v in
    let n = length xs in
    let found = c.in-Found.found in
    let all : c.index_len-len.result ≡ length os = c.index_len-len.ensures ∙ sym (length_standing g.S.IndexOrd.stands xs v) in
    let here : IsWhere (asked_at Whole os) 0 (length os) (Found found) =
    subst (λ m. IsWhere (asked_at Whole os) 0 m (Found found)) all (subst (IsWhere (asked_at Whole os) 0 c.index_len-len.result) c.in-Found.is c.in_ok-place.ensures.ok) in
    let up : Ascends (asked_at Whole os) (length os) = subst (Ascends (asked_at Whole os)) (sym (length_standing g.S.IndexOrd.stands xs v)) (ascends_standing g.S.IndexOrd.stands xs v c.requires) in
    elim c.match-side.branch [
      | in-Left+in_ok-edge-in-Left w ↦
          let edge : IsWhere (asked_at Below os) 0 found w.in_ok-edge-in-Left.edge =
          subst (λ s. IsWhere (asked_at Below (standing g.S.IndexOrd.stands s v)) 0 found w.in_ok-edge-in-Left.edge) c.halve.ensures.same w.in_ok-edge-in-Left.ensures.ok in
          ap Found (c.to_index.ensures ∙ ap index_of w.edge-is) ∙ place_left os found w.in_ok-edge-in-Left.edge up here edge ∙ ap (λ s. place s os) (sym w.in-Left.is)
      | in-Right+in_ok-edge-in-Right w ↦
          let edge : IsWhere (asked_at NotAbove os) found (length os) w.in_ok-edge-in-Right.edge =
          subst (λ m. IsWhere (asked_at NotAbove os) found m w.in_ok-edge-in-Right.edge) all
          (subst (λ s. IsWhere (asked_at NotAbove (standing g.S.IndexOrd.stands s v)) found c.index_len-len.result w.in_ok-edge-in-Right.edge) c.halve.ensures.same w.in_ok-edge-in-Right.ensures.ok) in
          ap Found (c.to_index.ensures ∙ ap index_of w.edge-is) ∙ place_right os found w.in_ok-edge-in-Right.edge up here edge ∙ ap (λ s. place s os) (sym w.in-Right.is)
    ]

pub returns-clause-rise : goal.returns-clause-rise
returns-clause-rise g c =
    let xs = g.S.IndexOrd.sequence c.args.seq.now in
    let os = standing g.S.IndexOrd.stands xs c.args.value.now in
    let found = c.in-Found.found in
    let here : IsWhere (asked_at Whole os) 0 c.index_len-len.result (Found found) = subst (IsWhere (asked_at Whole os) 0 c.index_len-len.result) c.in-Found.is c.in_ok-place.ensures.ok in
    let P : ℕ → Type 0 = λ s. s ≤ c.args.steps.now + search_bound (length xs) * g.S.IndexOrd.cmp_cost c.args.seq.now in
    elim c.match-side.branch [
      | in-Left+in_ok-edge-in-Left w ↦ subst P (sym w.steps-is) (second_rise c.args.steps.now c.halve.new.steps w.halve-in-Left.new.steps (g.S.IndexOrd.cmp_cost c.args.seq.now) (g.S.IndexOrd.cmp_cost c.halve.new.seq) c.index_len-len.result (length xs) (found - 0)
          c.index_len-len.ensures (omega (arith, here.1)) c.halve.ensures.same_cost c.halve.ensures.rise w.halve-in-Left.ensures.rise)
      | in-Right+in_ok-edge-in-Right w ↦ subst P (sym w.steps-is) (second_rise c.args.steps.now c.halve.new.steps w.halve-in-Right.new.steps (g.S.IndexOrd.cmp_cost c.args.seq.now) (g.S.IndexOrd.cmp_cost c.halve.new.seq) c.index_len-len.result (length xs) (c.index_len-len.result - found)
          c.index_len-len.ensures (omega arith) c.halve.ensures.same_cost c.halve.ensures.rise w.halve-in-Right.ensures.rise)
    ]
