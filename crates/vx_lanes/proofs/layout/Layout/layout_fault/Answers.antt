use Rattle.std.proofs.Common.{None, sym, ◌∙◌, ◌++◌}
use Rattle.vx_lanes.specs.Rules.{offset_rules, index_rules, value_rules}
use Rattle.vx_lanes.proofs.Firsts.{first_join}
use Rattle.vx_lanes.proofs.layout.Layout.layout_fault.Goals as goal

pub returns-in-Some-clause-first : goal.returns-in-Some-clause-first
returns-in-Some-clause-first g c =
    let l = c.args.self.now in
    sym (first_join (offset_rules l) (index_rules l ++ value_rules l c.args.alike) _ (sym c.in-Some.ensures))

pub returns-in-Some-index_fault-clause-first : goal.returns-in-Some-index_fault-clause-first
returns-in-Some-index_fault-clause-first g c =
    let l = c.args.self.now in
    sym (first_join (offset_rules l) (index_rules l ++ value_rules l c.args.alike) None (sym c.in_default.ensures) ∙ first_join (index_rules l) (value_rules l c.args.alike) _ (sym c.in-Some-index_fault.ensures.first))

pub returns-clause-first : goal.returns-clause-first
returns-clause-first g c =
    let l = c.args.self.now in
    c.value_fault.ensures ∙ sym (first_join (offset_rules l) (index_rules l ++ value_rules l c.args.alike) None (sym c.in_default.ensures) ∙ first_join (index_rules l) (value_rules l c.args.alike) None (sym c.in_default-index_fault.ensures.first))
