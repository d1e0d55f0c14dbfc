use Rattle.std.proofs.Common.{ap, sym, ◌∙◌, string_bytes}
use Rattle.tough_schema.specs.Targets.{targets_doc}
use Rattle.tough_schema.specs.Fresh.{carriers_below}
use Rattle.tough_schema.specs.Whole.{NamedTree, top_doc}
use Rattle.tough_schema.specs.declared.targets.DelegatedTargets.{out-roll-DelegatedTargets}
use Rattle.tough_schema.proofs.lemmas.Wholes.{held-below, named-roll, role-named, top-tells}
use Rattle.tough_schema.specs.declared.delegations.DelegatedRole.{DelegatedRole}
use Rattle.tough_schema.specs.declared.delegations.Delegations.{Delegations}
use Rattle.tough_schema.specs.declared.targets.Targets.{Targets}
use Rattle.tough_schema.specs.declared.targets.DelegatedTargets.{DelegatedTargets}
use Rattle.tough_schema.specs.declared.delegations.DelegatedRole.TheOpen.{DelegatedTargets-F}
use Rattle.tough_signed.proofs.standing.alone.Goals as goal

pub returns : goal.returns
returns c =
    let fields : DelegatedTargets-F DelegatedRole Delegations DelegatedTargets Targets = record { name = c.in_ok-name.name; targets = c.in_ok-targets.targets } in
    record {
      name = ap (λ f. string_bytes f.name) (out-roll-DelegatedTargets fields) ∙ (c.in_ok-name.ensures.cases ∙ sym (role-named c.args.role.now));
      document = ap (λ f. targets_doc f.targets) (out-roll-DelegatedTargets fields) ∙ (c.in_ok-targets.ensures.same ∙ (top-tells _ ∙ ap top_doc (sym (held-below c.args.document.now))));
      signatures = c.in_ok-signatures.ensures;
      bare = ap (λ (y : NamedTree). carriers_below y.1) (named-roll fields) ∙ c.in_ok-targets.ensures.bare;
    }
