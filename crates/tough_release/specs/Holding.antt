-- Who holds the keys of a targets document (TUF specification 1.0, sections 4.3 and 4.5).
use Rattle.std.specs.Prelude.{ℕ, List, Bool, Option, Some, option_map, option_and_then, if◌then◌else◌, codes}
use Rattle.std.specs.Str.{bytes_eq}
use Rattle.tough_roles.specs.Root.{RootDoc}
use Rattle.tough_roles.specs.Signature.{SignedDoc}
use Rattle.tough_schema.specs.Delegations.{DelegationsDoc}
use Rattle.tough_schema.specs.Seek.{parent}
use Rattle.tough_schema.specs.Whole.{TreeDoc, DelegationsTree, entries_in}
use Rattle.tough_signed.specs.Holders.{HolderDoc, by_root, by_delegations}

-- the name of the top-level targets
abbrev pub top_name : List ℕ
top_name = codes "targets"

abbrev pub is_top : List ℕ → Bool
is_top name = bytes_eq name top_name

-- the delegations without the documents of their roles
abbrev pub delegations_top : DelegationsTree → DelegationsDoc
delegations_top g = record { keys = g.0; roles = entries_in g.1 }

-- the delegations in which the first entry of the name stands, if it stands in some
abbrev pub holder_below : List ℕ → Option (SignedDoc TreeDoc) → Option HolderDoc
holder_below name targets = option_map (λ g. by_delegations (delegations_top g)) (option_and_then (λ s. parent name s.role) targets)

-- the root for the top-level targets, and those delegations for a role below them
abbrev pub holder_in : RootDoc → Option (SignedDoc TreeDoc) → List ℕ → Option HolderDoc
holder_in root targets name = if is_top name then Some (by_root root) else holder_below name targets
