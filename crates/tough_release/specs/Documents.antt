-- The snapshot and the timestamp that are built (TUF specification 1.0, sections 4.4 and 4.6).
use Rattle.std.specs.Prelude.{◌≡◌, ⊤, ℕ, List, [], ◌∷◌, ◌++◌, true, is_some, Some, None, ◌⊎◌, codes}
use Rattle.tough_roles.specs.Head.{Head}
use Rattle.tough_roles.specs.Snapshot.{SnapshotDoc, snapshot_doc}
use Rattle.tough_roles.specs.Timestamp.{MetafileDoc, TimestampDoc}
use Rattle.tough_roles.specs.declared.snapshot.Snapshot.{Snapshot}
use Rattle.tough_schema.specs.Targets.{targets_doc, delegated_doc, delegated_name}
use Rattle.tough_schema.specs.declared.targets.DelegatedTargets.{DelegatedTargets}
use Rattle.tough_schema.specs.declared.targets.Targets.{Targets}
use Rattle.tough_sign.specs.Listing.{stated, with_meta}
use Rattle.tough_signed.specs.Roles.{signed_of, buffer_of}
use Rattle.tough_signed.specs.declared.error.EditError.{EditError}
use Rattle.tough_signed.specs.declared.error.EditError.TheVariants as errors
use Rattle.tough_signed.specs.declared.signed_role.SignedRole.{SignedRole}
use Rattle.tough_release.specs.Edits.{HeadingDoc}

abbrev pub Metas : Type 0
Metas = List (List ℕ × MetafileDoc)

-- ---- the entries

-- the entry of a role's document, under the role's name: the digest and the length of its file, and its version
abbrev pub with_role_meta : Metas → SignedRole DelegatedTargets → Metas
with_role_meta metas r = with_meta metas (delegated_name (signed_of r).signed ++ codes ".json") (stated (buffer_of r) (delegated_doc (signed_of r).signed).head.version)

abbrev pub with_role_metas : Metas → List (SignedRole DelegatedTargets) → Metas
with_role_metas metas [] = metas
with_role_metas metas (r ∷ rs) = with_role_metas (with_role_meta metas r) rs

-- the targets' entry, and one for each document of a role
abbrev pub snapshot_metas : SignedRole Targets → List (SignedRole DelegatedTargets) → Metas
snapshot_metas t ds = with_role_metas ((codes "targets.json", stated (buffer_of t) (targets_doc (signed_of t).signed).head.version) ∷ []) ds

-- the snapshot's entry
abbrev pub timestamp_metas : SignedRole Snapshot → Metas
timestamp_metas r = (codes "snapshot.json", stated (buffer_of r) (snapshot_doc (signed_of r).signed).head.version) ∷ []

-- ---- the documents

-- the version and the expiry that are set
pub record IsHeaded (h : HeadingDoc) (head : Head) : Type 0 where
  pub spec_version : head.spec_version ≡ codes "1.0.0"
  pub version : h.version ≡ Some head.version
  pub expires : h.expires ≡ Some head.expires

-- the snapshot with what is set, and with exactly these entries
pub record IsSnapshot (h : HeadingDoc) (metas : Metas) (d : SnapshotDoc) : Type 0 where
  pub head : IsHeaded h d.head
  pub meta : d.meta ≡ metas
  pub extra : d.extra ≡ h.extra

-- the same of a timestamp
pub record IsTimestamp (h : HeadingDoc) (metas : Metas) (d : TimestampDoc) : Type 0 where
  pub head : IsHeaded h d.head
  pub meta : d.meta ≡ metas
  pub extra : d.extra ≡ h.extra

-- the field that isn't set: the version, or else the expiry; want of memory says nothing
abbrev pub IsHeadless : List ℕ → List ℕ → HeadingDoc → EditError → Type 0
IsHeadless version expiry h (errors.Missing field) = ((field.now ≡ version) × (h.version ≡ None)) ⊎ ((field.now ≡ expiry) × (is_some h.version ≡ true) × (h.expires ≡ None))
IsHeadless version expiry h errors.Memory = ⊤
IsHeadless version expiry h _ = ⊥
