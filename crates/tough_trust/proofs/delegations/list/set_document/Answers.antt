use Rattle.std.proofs.Common.{Some}
use Rattle.tough_schema.specs.declared.delegations.DelegatedRole.{out-DelegatedRole, roll-DelegatedRole}
use Rattle.tough_schema.specs.declared.delegations.Delegations.{out-Delegations, roll-Delegations}
use Rattle.tough_schema.specs.declared.targets.DelegatedTargets.{out-DelegatedTargets}
use Rattle.tough_schema.specs.declared.targets.Targets.{Targets, out-Targets, roll-Targets}
use Rattle.tough_schema.specs.Whole.{held_doc}
use Rattle.std.specs.Vec.{with_item}
use Rattle.tough_trust.specs.delegations.Dressed.{only}
use Rattle.tough_trust.proofs.Setting.{role-set, tree-set, tree-past, held-set}
use Rattle.tough_trust.proofs.delegations.list.set_document.Goals as goal

pub returns-in-Some-get_mut : goal.returns-in-Some-get_mut
returns-in-Some-get_mut c =
    let s = c.args.document.now in
    let t = (out-DelegatedTargets s.signed).targets in
    let g = c.in-Some.delegations in
    let h = held_doc c.args.held in
    let r = c.in-Some-get_mut.role.now in
    let w = roll-DelegatedRole (record (out-DelegatedRole r) { targets = Some c.args.held }) in
    let u : Targets = roll-Targets (record (out-Targets t) { delegations = Some (roll-Delegations (record (out-Delegations g) { roles = with_item (out-Delegations g).roles c.args.place w })) }) in
    held-set s u (only c.args.place h) (tree-set t g c.args.place h c.in-Some.is r w c.in-Some-get_mut.ensures.item.3.0 c.in-Some-get_mut.ensures.item.1 (role-set r c.args.held))

pub returns-in_default-get_mut : goal.returns-in_default-get_mut
returns-in_default-get_mut c =
    let s = c.args.document.now in
    let t = (out-DelegatedTargets s.signed).targets in
    let g = c.in-Some.delegations in
    let h = held_doc c.args.held in
    let u : Targets = roll-Targets (record (out-Targets t) { delegations = Some (roll-Delegations (out-Delegations g)) }) in
    held-set s u (only c.args.place h) (tree-past t g c.args.place h c.in-Some.is c.in_default-get_mut.ensures.item.3)
