-- The names of stored documents.
use Rattle.std.specs.Prelude.{ℕ, List, string_bytes}
use Rattle.tough_checks.specs.declared.document_name.DocumentName.{DocumentName}

-- the name's bytes
abbrev pub name_of : DocumentName → List ℕ
name_of n = string_bytes n.text
