use Rattle.std.proofs.Common.{Err, ◌≡◌, List, map, Some, None, option_map, sym, ap, subst, ◌∙◌}
use Rattle.tough_roles.specs.Signature.{signatures_doc}
use Rattle.tough_roles.specs.Policy.{policy_of}
use Rattle.tough_roles.specs.Verdict.{RoleNotFound, verdict, Answers}
use Rattle.tough_roles.specs.Chain.{text_by}
use Rattle.tough_roles.proofs.lemmas.Verdicts.{verdict-missing}
use Rattle.tough_schema.specs.declared.delegations.DelegatedRole.{DelegatedRole}
use Rattle.tough_schema.specs.Delegations.{DelegatedRoleDoc, delegated_role_doc, delegations_doc}
use Rattle.tough_schema.specs.Verify.{role_keys, role_named}
use Rattle.tough_schema.proofs.verify.answer.Goals as goal

pub returns-in_ok-keys-in-Some : goal.returns-in_ok-keys-in-Some
returns-in_ok-keys-in-Some g c =
    let v = g.V.Verify.verifies c.args.verifier.now in
    let text = text_by g.T.Role.json c.args.document.now.signed in
    let ss = signatures_doc c.args.document.now.signatures.items in
    let keys = (delegations_doc c.args.delegations.now).keys in
    let policy = option_map (λ (r : DelegatedRoleDoc). policy_of keys (role_keys r)) in
    let named : role_named c.args.name.now (delegations_doc c.args.delegations.now).roles ≡ Some (delegated_role_doc c.in-Some.role.now) =
    ap (λ (l : List DelegatedRole). role_named c.args.name.now (map delegated_role_doc l)) (sym c.deref.ensures.value) ∙ sym c.in-Some.ensures in
    subst (Answers c.verify_by.result) (ap (λ k. verdict v (RoleNotFound c.args.name.now) g.T.Role.TYPE (Some (policy_of keys k)) text ss) c.in_ok-keys-in-Some.ensures ∙ ap (λ o. verdict v (RoleNotFound c.args.name.now) g.T.Role.TYPE (policy o) text ss) (sym named)) (c.verify_by.ensures (RoleNotFound c.args.name.now))

pub returns-in_ok-from_str-in-None : goal.returns-in_ok-from_str-in-None
returns-in_ok-from_str-in-None g c =
    let v = g.V.Verify.verifies c.args.verifier.now in
    let text = text_by g.T.Role.json c.args.document.now.signed in
    let ss = signatures_doc c.args.document.now.signatures.items in
    let keys = (delegations_doc c.args.delegations.now).keys in
    let policy = option_map (λ (r : DelegatedRoleDoc). policy_of keys (role_keys r)) in
    let named : role_named c.args.name.now (delegations_doc c.args.delegations.now).roles ≡ None =
    ap (λ (l : List DelegatedRole). role_named c.args.name.now (map delegated_role_doc l)) (sym c.deref.ensures.value) ∙ sym c.in-None.ensures in
    ap (λ o. verdict v (RoleNotFound c.args.name.now) g.T.Role.TYPE (policy o) text ss) named ∙ verdict-missing v (RoleNotFound c.args.name.now) g.T.Role.TYPE text ss
    ∙ ap (λ n. Err (RoleNotFound n)) (sym c.in_ok-from_str-in-None.ensures.ok)
