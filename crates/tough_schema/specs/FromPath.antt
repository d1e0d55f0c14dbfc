-- The target that a file is (TUF specification 1.0, section 4.5, TARGETS).
use Rattle.std.specs.Prelude.{◌≡◌, ⊤, ℕ, List, length, Option, Some, None, Result, Ok, Err}
use Rattle.sha2.specs.Sha256.{sha256}
use Rattle.sha2.specs.Sha512.{sha512}
use Rattle.tough_decoded.specs.Spelled.{Spelled}
use Rattle.hex.specs.Hex.{encode_lower}
use Rattle.serde_json.specs.Data.{no_members}
use Rattle.tough_files.specs.Contents.{Node, file}
use Rattle.tough_schema.specs.declared.target.Target.{Target}
use Rattle.tough_schema.specs.declared.file_digest.FileError.{FileError}
use Rattle.tough_schema.specs.declared.file_digest.FileError.TheVariants as why
use Rattle.tough_schema.specs.Target.{TargetDoc, target_doc}
use Rattle.tough_schema.specs.FileDigest.{IsOther, IsEndless}

-- the bytes in lower-case digits
abbrev pub in_digits : List ℕ → Spelled
in_digits bytes = record { spelling = encode_lower bytes; bytes = bytes }

-- the length and the digests of the bytes, in lower-case digits, and nothing else
abbrev pub target_of : List ℕ → TargetDoc
target_of bytes = record {
  length = length bytes;
  hashes = record { sha256 = in_digits (sha256 bytes); sha512 = Some (in_digits (sha512 bytes)); extra = no_members };
  custom = no_members;
  extra = no_members;
}

-- The target of what stands there, or why there is none. Want of memory says nothing.
abbrev pub IsTargetOf : Option Node → Result Target FileError → Type 0
IsTargetOf n (Ok t) = (bytes : List ℕ) × (n ≡ Some (file bytes)) × (target_doc t ≡ target_of bytes)
IsTargetOf n (Err why.FileOpen) = n ≡ None
IsTargetOf n (Err why.TargetNotAFile) = IsOther n
IsTargetOf n (Err why.FileRead) = IsEndless n
IsTargetOf n (Err why.Memory) = ⊤
