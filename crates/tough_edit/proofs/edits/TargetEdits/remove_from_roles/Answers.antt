use Rattle.std.proofs.Common.{List, map, ap, ◌∙◌}
use Rattle.tough_schema.specs.declared.delegations.DelegatedRole.{DelegatedRole}
use Rattle.tough_schema.specs.Whole.{RoleTree, role_tree}
use Rattle.tough_edit.specs.Edits.{EditsDoc, edits_doc}
use Rattle.tough_edit.specs.Keys.{with_fewer}
use Rattle.tough_edit.proofs.Lists.{changed}
use Rattle.tough_edit.proofs.edits.TargetEdits.remove_from_roles.Goals as goal

pub returns : goal.returns
returns c =
    let e = c.args.self.now in
    let fewer : RoleTree → RoleTree = with_fewer c.args.name.now c.args.keyid.now in
    let shown : List RoleTree → EditsDoc = λ rs. record (edits_doc e) { old_roles = rs } in
    ap shown (changed fewer e.old_roles c.remove_keyids.new.roles (c.remove_keyids.ensures ∙ ap (λ (rs : List DelegatedRole). map fewer (map role_tree rs)) c.deref_mut.ensures.value))
