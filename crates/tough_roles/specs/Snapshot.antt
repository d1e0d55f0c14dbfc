-- Snapshots: which versions of the other metadata files are current (TUF specification 1.0, section 4.4).
use Rattle.std.specs.Prelude.{ℕ, List, [], Option, Some, codes, string_bytes}
use Rattle.std.specs.Int.NonZero.{non_zero_u64_get}
use Rattle.serde_json.specs.Data.{Data, object, Members, no_members}
use Rattle.serde_json.specs.Find.{as_object}
use Rattle.serde_json.specs.View.{members_view}
use Rattle.tough_json.specs.Reading.{◌>>=◌, required, mapping}
use Rattle.tough_json.specs.Writing.{with, named}
use Rattle.tough_roles.specs.Head.{Head, head_at, head_json}
use Rattle.tough_roles.specs.Timestamp.{MetafileDoc, metafiles_doc, metafile_at, metafile_json}
use Rattle.tough_roles.specs.declared.snapshot.Snapshot.{Snapshot}

-- the metafiles are in the order of their names' bytes
pub record SnapshotDoc : Type 0 where
  pub head : Head
  pub meta : List (List ℕ × MetafileDoc)
  pub extra : Members

abbrev pub snapshot_doc : Snapshot → SnapshotDoc
snapshot_doc s = record {
  head = record { spec_version = string_bytes s.spec_version; version = non_zero_u64_get s.version; expires = s.expires.nanosecond };
  meta = metafiles_doc s.meta.entries;
  extra = members_view s._extra.entries;
}

-- one that tells of no file
abbrev pub bare_snapshot : Head → SnapshotDoc
bare_snapshot head = record { head = head; meta = []; extra = no_members }

unfoldable pub snapshot_at : Data → Option SnapshotDoc
snapshot_at d = do
  members ← as_object d
  head ← head_at members
  meta ← required (codes "meta") (mapping metafile_at) head.1
  Some (record { head = head.0; meta = meta.0; extra = meta.1 })

unfoldable pub snapshot_json : SnapshotDoc → Option Data
snapshot_json t = do
  inner ← named metafile_json t.meta
  meta ← with (codes "meta") (object inner) t.extra
  members ← head_json (codes "snapshot") t.head meta
  Some (object members)
