-- The files of the documents of delegated roles, under the names that a client asks for (TUF specification 1.0, sections 3.1.2 and 6.2).
use Rattle.std.specs.Prelude.{ℕ, List, Bool}
use Rattle.tough_roles.specs.Names.{file_name}
use Rattle.tough_schema.specs.Targets.{delegated_doc, delegated_name, delegated_file}
use Rattle.tough_schema.specs.declared.targets.DelegatedTargets.{DelegatedTargets}
use Rattle.tough_signed.specs.Roles.{signed_of, buffer_of}
use Rattle.tough_signed.specs.declared.signed_role.SignedRole.{SignedRole}

-- a file's name and its bytes
abbrev pub FileDoc : Type 0
FileDoc = List ℕ × List ℕ

abbrev pub role_version : SignedRole DelegatedTargets → ℕ
role_version d = (delegated_doc (signed_of d).signed).head.version

abbrev pub role_name : SignedRole DelegatedTargets → List ℕ
role_name d = delegated_name (signed_of d).signed

-- the version stands before the name with consistent snapshots
abbrev pub role_file : Bool → SignedRole DelegatedTargets → FileDoc
role_file consistent d = (file_name consistent (role_version d) (delegated_file (role_name d)), buffer_of d)
