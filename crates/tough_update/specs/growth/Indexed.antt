-- That the index tells where the documents of the roles stand (TUF specification 1.0, section 5.6.7).
use Rattle.std.specs.Prelude.{◌≡◌, ◌↔◌, ◌==◌, ⊤, ℕ, suc, List, drop, Option, Some, None, option_map, if◌then◌else◌}
use Rattle.tough_update.specs.delegations.Numbered.{NodeDoc, Nodes, targets, also, last_number, roles_at}
use Rattle.tough_trust.specs.delegations.Indexed.{Index}
use Rattle.tough_update.specs.delegations.Growing.{Progress, wants, grown, first_of}

-- the name of the role under which a document has its place
abbrev pub name_of : NodeDoc → Nodes → Option (List ℕ)
name_of n ns = option_map (λ e. e.name) (first_of (drop n.at (roles_at n.parent ns)))

-- the same of the document of this number
abbrev pub name_at : ℕ → Nodes → Option (List ℕ)
name_at number (targets h) = None
name_at number (also ns n) = if number == suc (last_number ns) then name_of n ns else name_at number ns

-- a name has this number exactly where the document of the number has its place under a role of the name
abbrev pub IsIndexOf : Nodes → Index → Type 0
IsIndexOf ns index = (name : List ℕ) (number : ℕ) → (index name ≡ Some (Some number)) ↔ (name_at number ns ≡ Some name)

abbrev pub WantsIndexed : Progress → Type 0
WantsIndexed (wants w m) = IsIndexOf w.nodes w.index
WantsIndexed (grown t) = ⊤
