-- A repository of five files in memory: no delegated roles, no consistent snapshots, a root of version 1 (TUF specification 1.0, section 5).
use Rattle.std.specs.Prelude.{◌≡◌, ◌≢◌, ℕ, ℤ, List, [], ◌∷◌, length, Option, Some, None, Bool, true, false, codes}
use Rattle.std.specs.Map.{lookup}
use Rattle.std.specs.Str.{bytes_eq}
use Rattle.tough_keys.specs.Same.{Verifies}
use Rattle.tough_roles.specs.Chain.{ReachesUnder}
use Rattle.tough_roles.specs.Root.{RootDoc, root_json}
use Rattle.tough_roles.specs.Signature.{SignedDoc}
use Rattle.tough_roles.specs.Snapshot.{SnapshotDoc, snapshot_json}
use Rattle.tough_roles.specs.Timestamp.{TimestampDoc, MetafileDoc, timestamp_json, metafile_in}
use Rattle.tough_roles.specs.declared.role_type.RoleType.TheVariants as role
use Rattle.tough_schema.specs.Entries.{entry_names, first_missing}
use Rattle.tough_schema.specs.Targets.{targets_json}
use Rattle.tough_schema.specs.Whole.{TreeDoc}
use Rattle.tough_net.specs.declared.limits.Limits.{Limits}
use Rattle.tough_checks.specs.Checks.{is_expired}
use Rattle.tough_checks.specs.Documents.{root_in, root_text, timestamp_in, snapshot_in}
use Rattle.tough_checks.specs.Files.{snapshot_file, targets_file}
use Rattle.tough_vault.specs.Steps.{time_text}
use Rattle.tough_trust.specs.Listed.{targets_in, targets_text}
use Rattle.tough_trust.specs.Requests.{fits_request, timestamp_request, snapshot_request, targets_request}
use Rattle.tough_trust.specs.delegations.Bare.{top_page}
use Rattle.tough_update.specs.Loadable.{Files, Loadable}
use Rattle.tough_update.specs.Stages.{LoadedDoc, SettingDoc}

-- the bytes of the root that is handed in, and of the three files that are served
pub record Repository : Type 0 where
  pub trusted : List ℕ
  pub timestamp : List ℕ
  pub snapshot : List ℕ
  pub targets : List ℕ

-- under the names that a client asks for
abbrev pub files_of : Repository → Files
files_of f name = lookup (bytes_eq name) ((codes "timestamp.json", f.timestamp) ∷ (codes "snapshot.json", f.snapshot) ∷ (codes "targets.json", f.targets) ∷ [])

-- an update that is handed this root, and refuses what has expired
abbrev pub setting_of : Limits → Repository → SettingDoc
setting_of limits f = record { trusted = f.trusted; limits = limits; enforced = true; whole = true }

-- ---- what is found out of each document

module _ (verifies : Verifies) (start : ℤ) where
  pub record IsRoot (bytes : List ℕ) (d : SignedDoc RootDoc) : Type 0 where
    pub reading : root_in bytes ≡ Some d
    pub signed : ReachesUnder verifies d.role role.Root root_json d
    pub in_time : is_expired true start d.role.head.expires ≡ false
    pub stored : root_text d ≢ None
    pub first : d.role.head.version ≡ 1
    pub plain : d.role.consistent_snapshot ≡ false

  pub record IsTimestamp (limits : Limits) (root : RootDoc) (bytes : List ℕ) (d : SignedDoc TimestampDoc) : Type 0 where
    pub reading : timestamp_in bytes ≡ Some d
    pub signed : ReachesUnder verifies root role.Timestamp timestamp_json d
    pub in_time : is_expired true start d.role.head.expires ≡ false
    pub fits : fits_request (timestamp_request limits) bytes ≡ true
    pub alone : length d.role.meta ≡ 1

  pub record IsSnapshot (limits : Limits) (root : RootDoc) (entry : Option MetafileDoc) (bytes : List ℕ) (d : SignedDoc SnapshotDoc) : Type 0 where
    pub listed : MetafileDoc
    pub is : entry ≡ Some listed
    pub reading : snapshot_in bytes ≡ Some d
    pub signed : ReachesUnder verifies root role.Snapshot snapshot_json d
    pub in_time : is_expired true start d.role.head.expires ≡ false
    pub fits : fits_request (snapshot_request limits false listed) bytes ≡ true
    pub version : d.role.head.version ≡ listed.version

  -- targets that delegate to no role
  pub record IsTargets (limits : Limits) (root : RootDoc) (entry : Option MetafileDoc) (bytes : List ℕ) (d : SignedDoc TreeDoc) : Type 0 where
    pub listed : MetafileDoc
    pub is : entry ≡ Some listed
    pub reading : targets_in bytes ≡ Some (top_page d)
    pub signed : ReachesUnder verifies root role.Targets targets_json (top_page d)
    pub in_time : is_expired true start (top_page d).role.head.expires ≡ false
    pub stored : targets_text (top_page d) ≢ None
    pub fits : fits_request (targets_request limits false listed) bytes ≡ true
    pub version : (top_page d).role.head.version ≡ listed.version
    pub alone : entry_names d.role ≡ []
    pub found : first_missing d.role ≡ None

  -- ---- the whole

  -- all that `loads` asks: an update that begins at this moment may end with these documents
  pub record HasLoadable (limits : Limits) (f : Repository) : Type 0 where
    pub l : LoadedDoc
    pub begins : l.known.start ≡ start
    pub able : Loadable verifies (files_of f) (setting_of limits f) l
    -- and no more than this: the root is the first, its snapshots aren't consistent, and there are no delegated roles
    pub first : l.known.root.role.head.version ≡ 1
    pub plain : l.known.root.role.consistent_snapshot ≡ false
    pub alone : entry_names l.targets.role ≡ []
