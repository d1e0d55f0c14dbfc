-- Timestamps, and what they say of a snapshot (TUF specification 1.0, sections 4.4 and 4.6).
use Rattle.std.specs.Prelude.{ℕ, List, [], map, Option, Some, option_map, codes, string_bytes, String}
use Rattle.std.specs.Int.NonZero.{non_zero_u64_get}
use Rattle.std.specs.Map.{lookup}
use Rattle.std.specs.Str.{bytes_eq}
use Rattle.std.specs.declared.alloc.Global.{Global}
use Rattle.tough_decoded.specs.Spelled.{Spelled}
use Rattle.serde_json.specs.Data.{Data, object, Members, no_members}
use Rattle.serde_json.specs.Find.{as_object}
use Rattle.serde_json.specs.View.{members_view}
use Rattle.tough_json.specs.Reading.{◌>>=◌, required, optional, stated, positive, whole, hexadecimal, mapping}
use Rattle.tough_json.specs.Writing.{with, with_optional, optional_json, positive_json, length_json, hexadecimal_json, named}
use Rattle.tough_roles.specs.Head.{Head, head_at, head_json}
use Rattle.tough_roles.specs.declared.timestamp.Hashes.{Hashes}
use Rattle.tough_roles.specs.declared.timestamp.Metafile.{Metafile}
use Rattle.tough_roles.specs.declared.timestamp.Timestamp.{Timestamp}

-- ---- plain data

pub record HashesDoc : Type 0 where
  pub sha256 : Spelled
  pub sha512 : Option Spelled
  pub extra : Members

pub record MetafileDoc : Type 0 where
  pub version : ℕ
  pub length : Option ℕ
  pub hashes : Option HashesDoc
  pub extra : Members

-- the metafiles are in the order of their names' bytes
pub record TimestampDoc : Type 0 where
  pub head : Head
  pub meta : List (List ℕ × MetafileDoc)
  pub extra : Members

abbrev pub hashes_doc : Hashes → HashesDoc
hashes_doc h = record { sha256 = h.sha256; sha512 = h.sha512; extra = members_view h._extra.entries }

abbrev pub metafile_doc : Metafile → MetafileDoc
metafile_doc m = record { version = non_zero_u64_get m.version; length = m.length; hashes = option_map hashes_doc m.hashes; extra = members_view m._extra.entries }

abbrev pub metafiles_doc : List (String Global × Metafile) → List (List ℕ × MetafileDoc)
metafiles_doc es = map (λ e. (string_bytes e.0, metafile_doc e.1)) es

-- what a document lists for a file
abbrev pub metafile_in : List (List ℕ × MetafileDoc) → List ℕ → Option MetafileDoc
metafile_in es file = lookup (bytes_eq file) es

abbrev pub timestamp_doc : Timestamp → TimestampDoc
timestamp_doc t = record {
  head = record { spec_version = string_bytes t.spec_version; version = non_zero_u64_get t.version; expires = t.expires.nanosecond };
  meta = metafiles_doc t.meta.entries;
  extra = members_view t._extra.entries;
}

-- one that tells of no file
abbrev pub bare_timestamp : Head → TimestampDoc
bare_timestamp head = record { head = head; meta = []; extra = no_members }

-- ---- reading

unfoldable pub hashes_at : Data → Option HashesDoc
hashes_at d = do
  members ← as_object d
  sha256 ← required (codes "sha256") hexadecimal members
  sha512 ← stated (codes "sha512") hexadecimal sha256.1
  Some (record { sha256 = sha256.0; sha512 = sha512.0; extra = sha512.1 })

unfoldable pub metafile_at : Data → Option MetafileDoc
metafile_at d = do
  members ← as_object d
  version ← required (codes "version") positive members
  length ← optional (codes "length") whole version.1
  hashes ← optional (codes "hashes") hashes_at length.1
  Some (record { version = version.0; length = length.0; hashes = hashes.0; extra = hashes.1 })

unfoldable pub timestamp_at : Data → Option TimestampDoc
timestamp_at d = do
  members ← as_object d
  head ← head_at members
  meta ← required (codes "meta") (mapping metafile_at) head.1
  Some (record { head = head.0; meta = meta.0; extra = meta.1 })

-- ---- writing

unfoldable pub hashes_json : HashesDoc → Option Data
hashes_json h = do
  second ← optional_json hexadecimal_json h.sha512
  rest ← with_optional (codes "sha512") second h.extra
  digits ← hexadecimal_json h.sha256
  members ← with (codes "sha256") digits rest
  Some (object members)

unfoldable pub metafile_json : MetafileDoc → Option Data
metafile_json m = do
  inner ← optional_json hashes_json m.hashes
  hashes ← with_optional (codes "hashes") inner m.extra
  size ← optional_json length_json m.length
  length ← with_optional (codes "length") size hashes
  value ← positive_json m.version
  members ← with (codes "version") value length
  Some (object members)

unfoldable pub timestamp_json : TimestampDoc → Option Data
timestamp_json t = do
  inner ← named metafile_json t.meta
  meta ← with (codes "meta") (object inner) t.extra
  members ← head_json (codes "timestamp") t.head meta
  Some (object members)
