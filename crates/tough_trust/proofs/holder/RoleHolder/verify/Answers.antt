use Rattle.std.proofs.Common.{rules, ◌≡◌, ◌⊎◌, List, ℕ, Option, Some, None, option_map, refl, ap, ◌∙◌, inl, inr, Err, sym}
use Rattle.tough_roles.specs.Verdict.{RoleNotFound, verdict}
use Rattle.tough_roles.specs.Signature.{signed_doc}
use Rattle.tough_roles.specs.Chain.{text_by}
use Rattle.tough_roles.specs.declared.role_type.RoleType.TheVariants as role
use Rattle.tough_roles.proofs.lemmas.Verdicts.{verdict-missing}
use Rattle.tough_schema.specs.Delegations.{DelegatedRoleDoc, DelegationsDoc, delegations_doc, delegated_role_doc}
use Rattle.tough_schema.specs.Targets.{targets_doc, targets_json}
use Rattle.tough_trust.specs.Listed.{policy_in, by_role}
use Rattle.tough_trust.proofs.holder.RoleHolder.verify.Goals.{in-Some+in_default-role, in_default}
use Rattle.tough_trust.proofs.holder.RoleHolder.verify.Goals as goal

-- without delegations, or without a role in them, nothing is asked of signatures
missing : (g : Option DelegationsDoc) (r : Option DelegatedRoleDoc) (name : List ℕ) → (g ≡ None) ⊎ (r ≡ None) → policy_in (by_role g r name) ≡ None
missing None r name h = refl
missing (Some g) None name h = refl
missing (Some g) (Some r) name (inl h) = absurd (cc (h))
missing (Some g) (Some r) name (inr h) = absurd (cc (h))

pub returns-clause-verdict : goal.returns-clause-verdict
returns-clause-verdict g c =
    let holder = c.args.self.now in
    let delegations = option_map (λ d. delegations_doc d.now) holder.delegations in
    let first = option_map (λ r. delegated_role_doc r.now) holder.role in
    let none : (delegations ≡ None) ⊎ (first ≡ None) =
    elim c.match-self.branch [
      | in-Some+in_default-role x ↦ let e : first ≡ None = search rules in inr e
      | in_default x ↦ let e : delegations ≡ None = search rules in inl e
    ] in
    let d = signed_doc targets_doc c.args.targets in
    let v = g.V.Verify.verifies c.args.verifier.now in
    let text = text_by targets_json d.role in
    ap (λ p. verdict v (RoleNotFound holder.name.now) role.Targets p text d.signatures) (missing delegations first holder.name.now none) ∙ verdict-missing v (RoleNotFound holder.name.now) role.Targets text d.signatures
    ∙ ap (λ n. Err (RoleNotFound n)) (sym c.in_ok-from_str.ensures.ok)
