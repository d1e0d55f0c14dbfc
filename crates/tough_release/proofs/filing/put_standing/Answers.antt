use Rattle.std.proofs.Common.{option_map, sym, subst, ap, ◌∙◌}
use Rattle.tough_schema.specs.Delegations.{delegated_role_doc}
use Rattle.tough_schema.specs.Whole.{RoleTree, held_doc}
use Rattle.tough_schema.proofs.lemmas.Wholes.{role-out}
use Rattle.tough_signed.specs.Standing.{IsStanding}
use Rattle.tough_release.specs.Files.{IsPutAfter}
use Rattle.tough_release.proofs.filing.put_standing.Goals as goal

pub returns-clause-put : goal.returns-clause-put
returns-clause-put c =
    let r = c.args.role.now in
    let is = role-out r ∙ ap (λ o. let x : RoleTree = (delegated_role_doc r, option_map held_doc o) in x) c.in-Some.is in
    subst (λ x. IsPutAfter x c.args.all.now.items c.push.new.self.items) (sym is)
    (c.in-Ok.standing, subst (λ (x : RoleTree). IsStanding x.0 (held_doc c.in-Some.document) c.in-Ok.standing) is c.in-Ok.ensures.standing, c.in_ok-push-in-Ok.ensures.items)
