use Rattle.std.proofs.Common.{◌≡◌, Option, Some, rules, option_map, sym, subst}
use Rattle.tough_roles.specs.Root.{root_doc}
use Rattle.tough_roles.specs.Signature.{signed_doc}
use Rattle.tough_roles.specs.declared.signed.Signed.{Signed}
use Rattle.tough_schema.specs.Delegations.{delegations_doc}
use Rattle.tough_schema.specs.Whole.{tree_doc}
use Rattle.tough_schema.specs.declared.targets.Targets.{Targets}
use Rattle.tough_signed.specs.Holders.{by_delegations}
use Rattle.tough_release.specs.Holding.{holder_in}
use Rattle.tough_release.proofs.Closings.{held_below}
use Rattle.tough_release.proofs.close.holder_in.Goals as goal

pub returns-in_ok-delegations-in-Ok-clause-holder : goal.returns-in_ok-delegations-in-Ok-clause-holder
returns-in_ok-delegations-in-Ok-clause-holder c =
    let g = delegations_doc c.in_ok-delegations-in-Ok.delegations in
    subst (λ (o : Option (Signed Targets)). holder_in (root_doc c.args.root.now) (option_map (signed_doc tree_doc) o) c.args.role.now ≡ Some (by_delegations g)) (sym c.in-Some.is)
    (held_below (root_doc c.args.root.now) (signed_doc tree_doc c.in-Some.targets) c.args.role.now c.in-Ok.parent.now g (search rules) c.in-Ok.ensures.found c.in_ok-delegations-in-Ok.ensures.same)
