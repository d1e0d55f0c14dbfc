-- An editor of a repository (TUF specification 1.0, sections 4.3 to 4.6), and the calls that set its parts.
use Rattle.std.specs.Prelude.{◌≡◌, ℕ, ℤ, List, false, Option, Some, None, option_map, codes, string_bytes}
use Rattle.std.specs.Int.NonZero.{non_zero_u64_get}
use Rattle.std.specs.Str.{bytes_eq}
use Rattle.serde_json.specs.Data.{Members, no_members}
use Rattle.serde_json.specs.View.{members_view}
use Rattle.tough_roles.specs.Root.{RootDoc, root_doc}
use Rattle.tough_roles.specs.Signature.{SignedDoc, signed_doc}
use Rattle.tough_schema.specs.Whole.{TreeDoc, tree_doc}
use Rattle.tough_signed.specs.Holders.{by_root}
use Rattle.tough_signed.specs.Roles.{signed_of, buffer_of}
use Rattle.tough_signed.specs.declared.error.EditError.{EditError}
use Rattle.tough_signed.specs.declared.error.EditError.TheVariants as errors
use Rattle.tough_edit.specs.Edits.{EditsDoc, edits_doc, fresh, opened}
use Rattle.tough_release.specs.Holding.{top_name}
use Rattle.tough_release.specs.declared.heading.Heading.{Heading}
use Rattle.tough_release.specs.declared.edits.RepositoryEdits.{RepositoryEdits}

-- what is set of a document that is to be signed, and its extras
pub record HeadingDoc : Type 0 where
  pub version : Option ℕ
  pub expires : Option ℤ
  pub extra : Members

abbrev pub heading_doc : Heading → HeadingDoc
heading_doc h = record { version = option_map non_zero_u64_get h.version; expires = option_map (λ t. t.nanosecond) h.expires; extra = members_view h.extra.entries }

-- the root with its file, the signed targets, and the editor of a targets document that is open
pub record ReleaseDoc : Type 0 where
  pub root : SignedDoc RootDoc
  pub root_file : List ℕ
  pub targets : Option (SignedDoc TreeDoc)
  pub editor : Option EditsDoc
  pub snapshot : HeadingDoc
  pub timestamp : HeadingDoc

abbrev pub release_doc : RepositoryEdits → ReleaseDoc
release_doc e = record {
  root = signed_doc root_doc (signed_of e.root);
  root_file = buffer_of e.root;
  targets = option_map (signed_doc tree_doc) e.targets;
  editor = option_map edits_doc e.editor;
  snapshot = heading_doc e.snapshot;
  timestamp = heading_doc e.timestamp;
}

-- nothing is set of a document
abbrev pub bare_heading : HeadingDoc
bare_heading = record { version = None; expires = None; extra = no_members }

-- an editor of new targets, which the root's keys sign
abbrev pub begun_editor : RootDoc → EditsDoc
begun_editor root = record (fresh top_name) { holder = Some (by_root root) }

-- that editor is open, and nothing else is there
abbrev pub begun : SignedDoc RootDoc → List ℕ → ReleaseDoc
begun root file = record {
  root = root;
  root_file = file;
  targets = None;
  editor = Some (begun_editor root.role);
  snapshot = bare_heading;
  timestamp = bare_heading;
}

-- ---- the documents that are taken over

-- the targets, and an editor over them, which the root's keys sign
abbrev pub with_targets : SignedDoc TreeDoc → ReleaseDoc → ReleaseDoc
with_targets s e = record e { targets = Some s; editor = Some (opened top_name (Some (by_root e.root.role)) s.role) }

abbrev pub with_snapshot_extra : Members → ReleaseDoc → ReleaseDoc
with_snapshot_extra extra e = record e { snapshot = record e.snapshot { extra = extra } }

abbrev pub with_timestamp_extra : Members → ReleaseDoc → ReleaseDoc
with_timestamp_extra extra e = record e { timestamp = record e.timestamp { extra = extra } }

-- the document has another version of the specification, this one
abbrev pub IsOtherVersion : List ℕ → EditError → Type 0
IsOtherVersion given (errors.SpecVersion stated) = (string_bytes stated ≡ given) × (bytes_eq given (codes "1.0.0") ≡ false)
IsOtherVersion given _ = ⊥

-- ---- versions and expiries

abbrev pub with_snapshot_version : ℕ → ReleaseDoc → ReleaseDoc
with_snapshot_version version e = record e { snapshot = record e.snapshot { version = Some version } }

abbrev pub with_snapshot_expiry : ℤ → ReleaseDoc → ReleaseDoc
with_snapshot_expiry expires e = record e { snapshot = record e.snapshot { expires = Some expires } }

abbrev pub with_timestamp_version : ℕ → ReleaseDoc → ReleaseDoc
with_timestamp_version version e = record e { timestamp = record e.timestamp { version = Some version } }

abbrev pub with_timestamp_expiry : ℤ → ReleaseDoc → ReleaseDoc
with_timestamp_expiry expires e = record e { timestamp = record e.timestamp { expires = Some expires } }

-- ---- the open editor

-- a call of the open editor
abbrev pub at_editor : (EditsDoc → EditsDoc) → ReleaseDoc → ReleaseDoc
at_editor change e = record e { editor = option_map change e.editor }

-- no editor is open
abbrev pub IsUnopened : ReleaseDoc → EditError → Type 0
IsUnopened e error = (error ≡ errors.NoTargets) × (e.editor ≡ None)
