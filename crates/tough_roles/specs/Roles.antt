-- The top-level roles (TUF specification 1.0, section 2.1), their names and their order.
use Rattle.std.specs.Prelude.{ℕ, List, Option, Some, None, codes, if◌then◌else◌}
use Rattle.std.specs.Str.{bytes_eq}
use Rattle.std.specs.Ordering.{nat_cmp, on}
use Rattle.std.specs.declared.cmp.Ordering.{Ordering}
use Rattle.tough_roles.specs.declared.role_type.RoleType.{RoleType}
use Rattle.tough_roles.specs.declared.role_type.RoleType.TheVariants as types

abbrev pub role_name : RoleType → List ℕ
role_name types.Root = codes "root"
role_name types.Snapshot = codes "snapshot"
role_name types.Targets = codes "targets"
role_name types.Timestamp = codes "timestamp"
role_name types.DelegatedTargets = codes "delegated-targets"

abbrev pub role_type : List ℕ → Option RoleType
role_type t =
    if bytes_eq t (codes "root") then Some types.Root
    else (if bytes_eq t (codes "snapshot") then Some types.Snapshot
    else (if bytes_eq t (codes "targets") then Some types.Targets
    else (if bytes_eq t (codes "timestamp") then Some types.Timestamp
    else (if bytes_eq t (codes "delegated-targets") then Some types.DelegatedTargets else None))))

-- the place of a role in the order
abbrev pub rank : RoleType → ℕ
rank types.Root = 0
rank types.Snapshot = 1
rank types.Targets = 2
rank types.Timestamp = 3
rank types.DelegatedTargets = 4

abbrev pub role_cmp : RoleType → RoleType → Ordering
role_cmp = on rank nat_cmp
