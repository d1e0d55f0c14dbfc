use Rattle.std.proofs.Common.{map, ap, ◌∙◌}
use Rattle.tough_schema.specs.Whole.{role_tree}
use Rattle.tough_schema.proofs.Copied.{delegations-copied}
use Rattle.tough_schema.proofs.copy.copy_delegations.Goals as goal

pub returns : goal.returns
returns c =
    delegations-copied c.args.delegations.now (record { keys = c.in_ok-keys.keys; roles = c.in_ok-roles.roles }) c.in_ok-keys.ensures (c.in_ok-roles.ensures ∙ ap (map role_tree) c.deref.ensures.value)
