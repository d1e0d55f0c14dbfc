-- Documents by numbers, and the tree that they make (TUF specification 1.0, section 4.5).
use Rattle.std.specs.Prelude.{ℕ, suc, ◌==◌, List, [], Option, Some, None, ◌&&◌, if◌then◌else◌}
use Rattle.tough_roles.specs.Signature.{SignedDoc}
use Rattle.tough_schema.specs.Tree.{Entry}
use Rattle.tough_schema.specs.Whole.{TreeDoc, HeldDoc}
use Rattle.tough_schema.specs.Update.{listed_roles}
use Rattle.tough_trust.specs.delegations.Dressed.{dressed, only}

-- a document that has its place: in the document of this number, at this place of its list
pub record NodeDoc : Type 0 where
  pub parent : ℕ
  pub at : ℕ
  -- as it was read
  pub document : HeldDoc

-- the targets, whose number is 0, and the documents that got their places after them, each with the next number
pub data Nodes : Type 0 where
  targets : HeldDoc → Nodes
  also : Nodes → NodeDoc → Nodes

abbrev pub last_number : Nodes → ℕ
last_number (targets h) = 0
last_number (also ns n) = suc (last_number ns)

abbrev pub last_document : Nodes → HeldDoc
last_document (targets h) = h
last_document (also ns n) = n.document

-- the roles that the last document lists
abbrev pub last_roles : Nodes → List Entry
last_roles ns = listed_roles (last_document ns).below

-- the roles that the document of this number lists
abbrev pub roles_at : ℕ → Nodes → List Entry
roles_at number (targets h) = if number == 0 then listed_roles h.below else []
roles_at number (also ns n) = if number == suc (last_number ns) then listed_roles n.document.below else roles_at number ns

-- ---- the tree

-- what each role has, by the number of the document that lists it, and its place there
abbrev pub Hanging : Type 0
Hanging = ℕ → ℕ → Option HeldDoc

abbrev pub nothing_hangs : Hanging
nothing_hangs number place = None

abbrev pub hang : NodeDoc → HeldDoc → Hanging → Hanging
hang n h below number place = if number == n.parent && place == n.at then Some h else below number place

-- the last document, with what its roles have, is what the role at its place has; and so on down to the targets
abbrev pub tree_with : Nodes → Hanging → HeldDoc
tree_with (targets h) below = dressed (below 0) h
tree_with (also ns n) below = tree_with ns (hang n (dressed (below (suc (last_number ns))) n.document) below)

abbrev pub tree_of : Nodes → HeldDoc
tree_of ns = tree_with ns nothing_hangs

-- a document without the name of its role
abbrev pub unnamed : HeldDoc → SignedDoc TreeDoc
unnamed h = record { role = h.below; signatures = h.signatures }

-- ---- words of private clauses

-- the role at this place of the list in the document of this number gets the document
abbrev pub put_at : ℕ → ℕ → HeldDoc → Nodes → Nodes
put_at number place h (targets d) = targets (if number == 0 then dressed (only place h) d else d)
put_at number place h (also ns n) =
    if number == suc (last_number ns) then also ns (record n { document = dressed (only place h) n.document }) else also (put_at number place h ns) n
