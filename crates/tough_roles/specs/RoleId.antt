-- Which role a document is of.
use Rattle.std.specs.Prelude.{ℕ, List, string_bytes}
use Rattle.tough_roles.specs.declared.role_id.RoleId.{RoleId}
use Rattle.tough_roles.specs.declared.role_id.RoleId.TheVariants as ids
use Rattle.tough_roles.specs.declared.role_type.RoleType.{RoleType}

pub data RoleIdDoc : Type 0 where
  standard : RoleType → RoleIdDoc
  delegated : List ℕ → RoleIdDoc

abbrev pub role_id_doc : RoleId → RoleIdDoc
role_id_doc (ids.StandardRole type) = standard type
role_id_doc (ids.DelegatedRole name) = delegated (string_bytes name)
