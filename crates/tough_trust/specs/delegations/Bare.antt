-- Documents as they were read, as trees: none of their roles has a document (TUF specification 1.0, section 4.5).
use Rattle.std.specs.Prelude.{ℕ, List, [], ◌∷◌, Option, Some, None, option_map}
use Rattle.tough_roles.specs.Signature.{SignedDoc}
use Rattle.tough_schema.specs.Delegations.{DelegationsDoc}
use Rattle.tough_schema.specs.Targets.{TargetsDoc}
use Rattle.tough_schema.specs.Tree.{Entry}
use Rattle.tough_schema.specs.Whole.{TreeDoc, tree, Branches, no_branches, unloaded, HeldDoc, top_doc}

abbrev pub all_unloaded : List Entry → Branches
all_unloaded [] = no_branches
all_unloaded (e ∷ es) = unloaded e (all_unloaded es)

-- the roles that a document lists
abbrev pub roles_of : Option DelegationsDoc → List Entry
roles_of None = []
roles_of (Some g) = g.roles

abbrev pub bare_tree : TargetsDoc → TreeDoc
bare_tree d = tree (record { head = d.head; targets = d.targets; keys = option_map (λ g. g.keys) d.delegations; extra = d.extra }) (all_unloaded (roles_of d.delegations))

abbrev pub bare : SignedDoc TargetsDoc → SignedDoc TreeDoc
bare d = record { role = bare_tree d.role; signatures = d.signatures }

-- the document without those of its roles
abbrev pub top_page : SignedDoc TreeDoc → SignedDoc TargetsDoc
top_page d = record { role = top_doc d.role; signatures = d.signatures }

-- the document under a role's name
abbrev pub held_as : List ℕ → SignedDoc TreeDoc → HeldDoc
held_as name d = record { name = name; signatures = d.signatures; below = d.role }
