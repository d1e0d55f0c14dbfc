-- What a document lists: targets, and delegated roles (TUF specification 1.0, section 4.5).
use Rattle.std.specs.Prelude.{List}
use Rattle.tough_names.specs.Named.{Named}
use Rattle.tough_schema.specs.Target.{TargetDoc}
use Rattle.tough_schema.specs.Delegations.{DelegatedRoleDoc}

-- the targets that a document lists, by their names
abbrev pub Listing : Type 0
Listing = List (Named × TargetDoc)

-- an entry in a list of delegated roles
abbrev pub Entry : Type 0
Entry = DelegatedRoleDoc
