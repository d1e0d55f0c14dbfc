-- How deep a tree is.
use Rattle.std.specs.Prelude.{ℕ, List}
use denote.Param.Weighed.{most}
use Rattle.tough_schema.specs.declared.delegations.DelegatedRole.{DelegatedRole, size-DelegatedRole}
use Rattle.tough_schema.specs.declared.delegations.Delegations.{Delegations, size-Delegations}

abbrev pub depth : DelegatedRole → ℕ
depth = size-DelegatedRole

abbrev pub depth_of : Delegations → ℕ
depth_of = size-Delegations

-- the depth of the deepest role
abbrev pub deepest : List DelegatedRole → ℕ
deepest rs = most depth rs
