use Rattle.std.proofs.Common.{sym, subst, ◌≡◌, ℕ, List, eqb, Contains, get_or}
use Rattle.std.proofs.lemmas.List.{get_or_default}
use Rattle.std.proofs.lemmas.List.Filters.{dedup_is}
use Rattle.std.proofs.lemmas.List.Kept.{Contains-dedup_nat, Contains-from_dedup}
use Rattle.std.proofs.lemmas.List.Sorted.{Contains-permutation, IsPermutation-sym}
use Rattle.std.proofs.lemmas.Map.Keys.{IsStrictlyIncreasing-dedup}
use Rattle.std.specs.List.{dedup}
use Rattle.std.specs.List.Sorted.{IsStrictlyIncreasing}
use Rattle.vx_select.proofs.Rising.{list_held}
use Rattle.vx_select.proofs.touched.lists_of.Goals as goal

pub returns-clause-rising : goal.returns-clause-rising
returns-clause-rising c =
    let sorted = c.sort.new.self.items in
    let left : c.dedup.new.self.items ≡ dedup eqb sorted = dedup_is eqb sorted c.dedup.new.self.items c.dedup.ensures.filtered in
    subst IsStrictlyIncreasing (sym left) (IsStrictlyIncreasing-dedup sorted c.in_ok-sort.ensures.sorted)

pub returns-clause-each : goal.returns-clause-each
returns-clause-each c = λ k d h.
    let all = c.in_ok-numbers.numbers.items in
    let sorted = c.sort.new.self.items in
    let left : c.dedup.new.self.items ≡ dedup eqb sorted = dedup_is eqb sorted c.dedup.new.self.items c.dedup.ensures.filtered in
    let x = (get_or c.args.spots.now k d).0 in
    let here = subst (λ (ns : List ℕ). Contains ns x) (sym c.in_ok-numbers.ensures.ok) (list_held c.args.spots.now k d h) in
    subst (λ (ns : List ℕ). Contains ns x) (sym left) (Contains-dedup_nat sorted x (Contains-permutation all sorted x c.in_ok-sort.ensures.permutation here))

pub returns-clause-own : goal.returns-clause-own
returns-clause-own c = λ k d h.
    let all = c.in_ok-numbers.numbers.items in
    let sorted = c.sort.new.self.items in
    let ends = c.dedup.new.self.items in
    let left : ends ≡ dedup eqb sorted = dedup_is eqb sorted ends c.dedup.ensures.filtered in
    let x = get_or ends k d in
    let here : Contains ends x = (k, h, get_or_default ends k x d h) in
    let within = Contains-from_dedup eqb sorted x (subst (λ (ns : List ℕ). Contains ns x) left here) in
    subst (λ (ns : List ℕ). Contains ns x) c.in_ok-numbers.ensures.ok (Contains-permutation sorted all x (IsPermutation-sym all sorted c.in_ok-sort.ensures.permutation) within)
