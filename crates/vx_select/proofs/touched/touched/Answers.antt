use Rattle.std.proofs.Common.{sym, subst, ◌∙◌, ◌≡◌, ◌<◌, ℕ, List, Contains, length, map}
use Rattle.std.specs.List.{All}
use Rattle.vx_select.specs.Spots.{Spot, named_by}
use Rattle.vx_select.proofs.Rising.{all_touched, own_below}
use Rattle.vx_select.proofs.touched.touched.Goals as goal

pub returns-then-count-len-clause-ok : goal.returns-then-count-len-clause-ok
returns-then-count-len-clause-ok c = all_touched c.args.count c.args.spots.items c.in_ok-numbers.numbers.items c.in_ok-numbers.ensures.ok c.requires

pub spots_among-requires-clause-each : goal.spots_among-requires-clause-each
spots_among-requires-clause-each c =
    subst (λ (ss : List Spot). All (λ (s : Spot). Contains c.as_slice-3.result.now s.0) ss) (c.as_slice.ensures.value ∙ sym c.as_slice-2.ensures.value)
    (subst (λ (ns : List ℕ). All (λ (s : Spot). Contains ns s.0) c.as_slice.result.now) (sym c.as_slice-3.ensures.value) c.in_ok-numbers-2.ensures.each)

pub returns-clause-ok : goal.returns-clause-ok
returns-clause-ok c =
    let spots = c.args.spots.items in
    let numbers = c.in_ok-numbers-2.numbers.items in
    let among = c.in_ok-among.among.items in
    let own = subst (λ (ss : List Spot). All (Contains (map (λ (s : Spot). s.0) ss)) numbers) c.as_slice.ensures.value c.in_ok-numbers-2.ensures.own in
    record {
      rising = c.in_ok-numbers-2.ensures.rising;
      below = own_below c.args.count spots numbers c.requires own;
      there = subst (λ (ns : List ℕ). All (λ (s : Spot). s.0 < length ns) among) c.as_slice-3.ensures.value c.in_ok-among.ensures.there;
      same = subst (λ (ns : List ℕ). map (named_by ns) among ≡ spots) c.as_slice-3.ensures.value (c.in_ok-among.ensures.same ∙ c.as_slice-2.ensures.value);
    }
