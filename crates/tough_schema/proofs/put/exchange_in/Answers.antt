use Rattle.std.proofs.Common.{rules, ◌≡◌, ◌+◌, ◌<◌, ◌≤◌, length, option_map, arith, ◌∙◌}
use Rattle.tough_schema.specs.declared.delegations.Delegations.{out-Delegations}
use Rattle.tough_schema.specs.Whole.{held_doc}
use Rattle.tough_schema.proofs.Exchanges.{tree-set, tree-kept, tree-same, slot-set, slot-kept}
use Rattle.tough_schema.proofs.put.exchange_in.Goals as goal

pub returns-in-Some-get_mut-clause-tree : goal.returns-in-Some-get_mut-clause-tree
returns-in-Some-get_mut-clause-tree c =
    let sum : c.in-Some-checked_sub.at + c.args.place ≡ length (out-Delegations c.in-Some.delegations).roles.items = search rules in
    tree-set c.args.document.now c.in-Some.delegations c.args.place (option_map held_doc c.args.new) c.in-Some.is c.in-Some-checked_sub.at c.in-Some-get_mut.role.now c.exchange_at-old.new.role
    sum c.in-Some-get_mut.ensures.item.3.0 c.in-Some-get_mut.ensures.item.1 c.exchange_at-old.ensures.role

pub returns-in-Some-get_mut-clause-old : goal.returns-in-Some-get_mut-clause-old
returns-in-Some-get_mut-clause-old c =
    let sum : c.in-Some-checked_sub.at + c.args.place ≡ length (out-Delegations c.in-Some.delegations).roles.items = search rules in
    c.exchange_at-old.ensures.old
    ∙ slot-set c.args.document.now c.in-Some.delegations c.args.place (option_map held_doc c.args.new) c.in-Some.is c.in-Some-checked_sub.at c.in-Some-get_mut.role.now sum c.in-Some-get_mut.ensures.item.3.0 c.in-Some-get_mut.ensures.item.1

pub returns-in_default-get_mut-clause-tree : goal.returns-in_default-get_mut-clause-tree
returns-in_default-get_mut-clause-tree c =
    let sum : c.in-Some-checked_sub.at + c.args.place ≡ length (out-Delegations c.in-Some.delegations).roles.items = search rules in
    let past : length (out-Delegations c.in-Some.delegations).roles.items ≤ c.in-Some-checked_sub.at = c.in_default-get_mut.ensures.item.3 in
    tree-kept c.args.document.now c.in-Some.delegations c.args.place (option_map held_doc c.args.new) c.in-Some.is (λ h. omega (arith, sum, past))

pub returns-in_default-get_mut-clause-old : goal.returns-in_default-get_mut-clause-old
returns-in_default-get_mut-clause-old c =
    let sum : c.in-Some-checked_sub.at + c.args.place ≡ length (out-Delegations c.in-Some.delegations).roles.items = search rules in
    let past : length (out-Delegations c.in-Some.delegations).roles.items ≤ c.in-Some-checked_sub.at = c.in_default-get_mut.ensures.item.3 in
    slot-kept c.args.document.now c.in-Some.delegations c.args.place (option_map held_doc c.args.new) c.in-Some.is (λ h. omega (arith, sum, past))

pub returns-in_default-checked_sub-clause-tree : goal.returns-in_default-checked_sub-clause-tree
returns-in_default-checked_sub-clause-tree c =
    let beyond : length (out-Delegations c.in-Some.delegations).roles.items < c.args.place = search rules in
    tree-same c.args.document.now c.in-Some.delegations c.args.place (option_map held_doc c.args.new) c.in-Some.is (λ h. absurd (omega (arith, h, beyond)))

pub returns-in_default-checked_sub-clause-old : goal.returns-in_default-checked_sub-clause-old
returns-in_default-checked_sub-clause-old c =
    let beyond : length (out-Delegations c.in-Some.delegations).roles.items < c.args.place = search rules in
    slot-kept c.args.document.now c.in-Some.delegations c.args.place (option_map held_doc c.args.new) c.in-Some.is (λ h. absurd (omega (arith, h, beyond)))
