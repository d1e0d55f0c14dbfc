-- The versions of a document, and those that it lists.
use Rattle.std.specs.Prelude.{ℕ, ℤ, List, [], ◌∷◌, map, Option, None, Some, string_bytes, if◌then◌else◌}
use Rattle.std.specs.Str.{bytes_eq}
use Rattle.jiff.specs.declared.timestamp.Timestamp.{Timestamp as Instant}
use Rattle.tough_checks.specs.declared.versions.ListedVersion.{ListedVersion}
use Rattle.tough_checks.specs.declared.versions.TimestampVersions.{TimestampVersions}
use Rattle.tough_checks.specs.declared.versions.SnapshotVersions.{SnapshotVersions}

-- a timestamp's version, with the version of the snapshot that it names
pub record Pair : Type 0 where
  pub version : ℕ
  pub snapshot : ℕ

-- a name with the version that a snapshot lists for it
pub record Item : Type 0 where
  pub name : List ℕ
  pub version : ℕ

-- a snapshot's version, with the names and versions that it lists
pub record Roles : Type 0 where
  pub version : ℕ
  pub items : List Item

abbrev pub item_of : ListedVersion → Item
item_of l = record { name = string_bytes l.name; version = l.version }

abbrev pub items_of : List ListedVersion → List Item
items_of ls = map item_of ls

abbrev pub pair_of : TimestampVersions → Pair
pair_of p = record { version = p.version; snapshot = p.snapshot }

abbrev pub roles_of : SnapshotVersions → Roles
roles_of v = record { version = v.version; items = items_of v.roles.items }

abbrev pub time_where : Option Instant → Option ℤ
time_where None = None
time_where (Some t) = Some t.nanosecond

abbrev pub pair_where : Option TimestampVersions → Option Pair
pair_where None = None
pair_where (Some p) = Some (pair_of p)

abbrev pub roles_where : Option SnapshotVersions → Option Roles
roles_where None = None
roles_where (Some v) = Some (roles_of v)

-- the version that is listed for a name: that of the first item of the name
abbrev pub version_in : List Item → List ℕ → Option ℕ
version_in [] name = None
version_in (item ∷ items) name = if bytes_eq name item.name then Some item.version else version_in items name
