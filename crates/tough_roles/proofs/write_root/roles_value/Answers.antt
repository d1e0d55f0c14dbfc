use Rattle.std.proofs.Common.{List, ◌∷◌, sym, ap, subst, ◌∙◌}
use Rattle.std.proofs.lemmas.Result.{err_from_is_err_and}
use Rattle.serde_json.specs.View.{view, members_view}
use Rattle.tough_json.specs.Writing.{with}
use Rattle.tough_json.proofs.lemmas.Named.{refuses-write}
use Rattle.tough_roles.specs.declared.role_type.RoleType.{RoleType}
use Rattle.tough_roles.specs.declared.root.RoleKeys.{RoleKeys}
use Rattle.tough_roles.specs.Root.{RoleKeysDoc, role_keys_doc, roles_doc, role_keys_json, roles_json}
use Rattle.std.specs.List.Sorted.{IsStrictlySortedBy}
use Rattle.tough_roles.specs.Roles.{role_cmp}
use Rattle.tough_roles.proofs.lemmas.Table.{keys_of-docs, roles_json-refused, roles_json-taken, roles_json-more, roles_json-done}
use Rattle.tough_roles.proofs.write_root.roles_value.Goals as goal

pub returns-in_err-value-clause-written : goal.returns-in_err-value-clause-written
returns-in_err-value-clause-written c =
    let e : RoleType × RoleKeysDoc = (c.in-Some.role.now, role_keys_doc c.in-Some.keys.now) in
    let found = members_view c.loop-role.members.entries in
    let left = roles_doc c.next.new.self in
    let all = c.loop-role.invariant ∙ ap (λ (es : List (RoleType × RoleKeys)). roles_json (roles_doc es) found) c.in-Some.ensures.steps in
    let failed = err_from_is_err_and c.from_residual.result c.from_residual.ensures.1 in
    rw (failed.1, failed.2, all) (refuses-write (role_keys_json e.1) (roles_json (e ∷ left) found) c.in_err-value.field-0.0 (roles_json-refused e left found) c.in_err-value.ensures)

pub returns-in_err-members-clause-written : goal.returns-in_err-members-clause-written
returns-in_err-members-clause-written c =
    let e : RoleType × RoleKeysDoc = (c.in-Some.role.now, role_keys_doc c.in-Some.keys.now) in
    let found = members_view c.loop-role.members.entries in
    let left = roles_doc c.next.new.self in
    let all = c.loop-role.invariant ∙ ap (λ (es : List (RoleType × RoleKeys)). roles_json (roles_doc es) found) c.in-Some.ensures.steps in
    let failed = err_from_is_err_and c.from_residual-in_err-members.result c.from_residual-in_err-members.ensures.1 in
    let d = view c.in_ok-value.value in
    rw (failed.1, failed.2, all) (refuses-write (with c.name.result.now d found) (roles_json (e ∷ left) found) c.in_err-members.field-0.0 (λ none. roles_json-taken e left found d c.in_ok-value.ensures (ap (λ n. with n d found) (sym c.name.ensures) ∙ none)) c.in_err-members.ensures)

pub loop-role-preserved : goal.loop-role-preserved
loop-role-preserved c =
    let e : RoleType × RoleKeysDoc = (c.in-Some.role.now, role_keys_doc c.in-Some.keys.now) in
    let found = members_view c.loop-role.members.entries in
    let left = roles_doc c.next.new.self in
    let all = c.loop-role.invariant ∙ ap (λ (es : List (RoleType × RoleKeys)). roles_json (roles_doc es) found) c.in-Some.ensures.steps in
    let d = view c.in_ok-value.value in
    all ∙ roles_json-more e left found (members_view c.in_ok-members.members.entries) d c.in_ok-value.ensures (ap (λ n. with n d found) (sym c.name.ensures) ∙ c.in_ok-members.ensures)

pub returns-clause-written : goal.returns-clause-written
returns-clause-written c =
    let found = members_view c.loop-role.members.entries in
    c.loop-role.invariant ∙ ap (λ (es : List (RoleType × RoleKeys)). roles_json (roles_doc es) found) c.in-None.ensures.steps.0 ∙ roles_json-done found

pub returns-clause-ordered : goal.returns-clause-ordered
returns-clause-ordered c = subst (IsStrictlySortedBy role_cmp) (sym (keys_of-docs role_keys_doc c.args.roles.now.entries)) c.iter-role-items.ensures.ordered
