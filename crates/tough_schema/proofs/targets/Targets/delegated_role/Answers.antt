use Rattle.std.proofs.Common.{◌≡◌, List, string_bytes, sym, ap, ◌∙◌, rules}
use Rattle.tough_schema.specs.declared.delegations.DelegatedRole.{DelegatedRole}
use Rattle.tough_schema.specs.Whole.{role_branches}
use Rattle.tough_schema.specs.Seek.{seek}
use Rattle.tough_schema.specs.Seeking.{seen_of}
use Rattle.tough_schema.proofs.Seeks.{sought-some}
use Rattle.tough_schema.proofs.targets.Targets.delegated_role.Goals as goal

pub returns-in-Found-clause-found : goal.returns-in-Found-clause-found
returns-in-Found-clause-found c =
    sought-some c.args.name.now c.args.self.now c.in-Some.delegations c.in-Some.is ∙ ap (λ (rs : List DelegatedRole). seek c.args.name.now (role_branches rs)) (sym c.deref.ensures.value) ∙ sym c.in_ok-role.ensures ∙ ap seen_of c.in-Found.is

pub returns-in-Undocumented-clause-refused : goal.returns-in-Undocumented-clause-refused
returns-in-Undocumented-clause-refused c =
    sought-some c.args.name.now c.args.self.now c.in-Some.delegations c.in-Some.is ∙ ap (λ (rs : List DelegatedRole). seek c.args.name.now (role_branches rs)) (sym c.deref.ensures.value) ∙ sym c.in_ok-role.ensures ∙ ap seen_of c.in-Undocumented.is

pub returns-in_ok-from_str-in-Missing-clause-refused : goal.returns-in_ok-from_str-in-Missing-clause-refused
returns-in_ok-from_str-in-Missing-clause-refused c =
    let same : string_bytes c.in_ok-from_str-in-Missing.field-0 ≡ c.args.name.now = search rules in
    (same, sought-some c.args.name.now c.args.self.now c.in-Some.delegations c.in-Some.is ∙ ap (λ (rs : List DelegatedRole). seek c.args.name.now (role_branches rs)) (sym c.deref.ensures.value) ∙ sym c.in_ok-role.ensures ∙ ap seen_of c.in-Missing.is)
