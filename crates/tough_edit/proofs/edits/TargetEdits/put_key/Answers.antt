use Rattle.std.proofs.Common.{List, map, Some, ap, ap₂, ◌∙◌}
use Rattle.tough_decoded.specs.Spelled.{Spelled}
use Rattle.tough_roles.specs.Root.{keys_doc}
use Rattle.tough_schema.specs.declared.delegations.DelegatedRole.{DelegatedRole}
use Rattle.tough_schema.specs.Whole.{RoleTree, role_tree}
use Rattle.tough_edit.specs.Edits.{EditsDoc, edits_doc}
use Rattle.tough_edit.specs.Keys.{more_keyids, all_given}
use Rattle.tough_edit.proofs.Lists.{given_roles}
use Rattle.tough_edit.proofs.edits.TargetEdits.put_key.Goals as goal

pub returns-clause-put : goal.returns-clause-put
returns-clause-put c =
    let e = c.args.self.now in
    let name = c.args.name.now in
    let ids = c.args.ids.items in
    let old : List (List Spelled) = map (λ v. v.items) c.in_ok-old.old.items in
    let new : List (List Spelled) = map (λ v. v.items) c.in_ok-new.new.items in
    let given : List (List Spelled) → List DelegatedRole → List RoleTree = λ l rs. all_given (map role_tree rs) l in
    let more : List DelegatedRole → List (List Spelled) = λ rs. map (more_keyids name ids) (map role_tree rs) in
    let shown : List RoleTree → List RoleTree → EditsDoc = λ o n. record (edits_doc e) { keys = Some (keys_doc c.args.keys.entries); old_roles = o; new_roles = n } in
    ap₂ shown
    (given_roles name ids e.old_roles c.put_all.new.roles old (c.put_all.ensures ∙ ap (given old) c.deref_mut.ensures.value) (c.in_ok-old.ensures ∙ ap more c.deref.ensures.value))
    (given_roles name ids e.new_roles c.put_all-2.new.roles new (c.put_all-2.ensures ∙ ap (given new) c.deref_mut-2.ensures.value) (c.in_ok-new.ensures ∙ ap more c.deref-2.ensures.value))
