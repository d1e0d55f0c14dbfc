use Rattle.std.proofs.Common.{ap, ◌∙◌, map, List}
use Rattle.tough_schema.specs.declared.delegations.DelegatedRole.{DelegatedRole}
use Rattle.tough_schema.specs.declared.targets.Targets.{out-Targets, out-roll-Targets}
use Rattle.tough_schema.specs.Whole.{role_tree, role_cleared}
use Rattle.tough_schema.proofs.lemmas.Wholes.{cleared-under, TargetsFields}
use Rattle.tough_schema.proofs.+clear.Goals as goal

pub targets::Targets::clear_targets-returns-in-Some : goal.targets::Targets::clear_targets-returns-in-Some
targets::Targets::clear_targets-returns-in-Some t c =
    let fields : TargetsFields = record (out-Targets c.args.self.now) { targets = c.clear.new.self } in
    cleared-under c.args.self.now _ c.clear.new.self c.in-Some.delegations c.clear_roles.new.roles (out-roll-Targets fields) c.clear.ensures.empty c.in-Some.is
    (c.clear_roles.ensures ∙ ap (λ (rs : List DelegatedRole). map role_cleared (map role_tree rs)) c.deref_mut.ensures.value)
