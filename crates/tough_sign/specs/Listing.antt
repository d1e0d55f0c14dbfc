-- What a snapshot and a timestamp state of files (TUF specification 1.0, sections 4.4 and 4.6).
use Rattle.std.specs.Prelude.{ℕ, List, length, Some}
use Rattle.std.specs.BTreeMap.{insert_entry}
use Rattle.std.specs.Ordering.{nat_cmp}
use Rattle.std.specs.Cmp.Lexicographic.{slice_cmp}
use Rattle.hex.specs.Hex.{encode_lower}
use Rattle.serde_json.specs.Data.{no_members}
use Rattle.sha2.specs.Sha256.{sha256}
use Rattle.sha2.specs.Sha512.{sha512}
use Rattle.tough_decoded.specs.Spelled.{Spelled}
use Rattle.tough_roles.specs.Timestamp.{HashesDoc, MetafileDoc}

-- the bytes in lower-case digits
abbrev pub in_digits : List ℕ → Spelled
in_digits bytes = record { spelling = encode_lower bytes; bytes = bytes }

abbrev pub hashes_of : List ℕ → HashesDoc
hashes_of bytes = record { sha256 = in_digits (sha256 bytes); sha512 = Some (in_digits (sha512 bytes)); extra = no_members }

-- the digests, the length and the version of a file of these bytes
abbrev pub stated : List ℕ → ℕ → MetafileDoc
stated bytes version = record { version = version; length = Some (length bytes); hashes = Some (hashes_of bytes); extra = no_members }

-- one more entry, in the order of the names' bytes
abbrev pub with_meta : List (List ℕ × MetafileDoc) → List ℕ → MetafileDoc → List (List ℕ × MetafileDoc)
with_meta metas name meta = insert_entry (slice_cmp nat_cmp) metas name meta
