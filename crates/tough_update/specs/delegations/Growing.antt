-- Which documents of delegated roles are fetched, and the tree that they make (TUF specification 1.0, section 5.6.7). A document's list
-- of roles is fetched as a whole; then its roles get their documents in order, each with its own list before the next role. A document
-- that gets its place gets the next number.
use Rattle.std.specs.Prelude.{ℕ, suc, List, [], ◌∷◌, ◌++◌, drop, Option, Some, None, Bool, codes, if◌then◌else◌}
use Rattle.std.specs.Ordering.{nat_cmp}
use Rattle.std.specs.Str.{bytes_eq}
use Rattle.std.specs.Cmp.Lexicographic.{slice_cmp}
use Rattle.std.specs.Map.{lookup, remove_entry}
use Rattle.std.specs.BTreeMap.{is_at, insert_entry}
use Rattle.tough_roles.specs.Signature.{SignedDoc}
use Rattle.tough_roles.specs.Timestamp.{MetafileDoc}
use Rattle.tough_schema.specs.Delegations.{DelegationsDoc}
use Rattle.tough_schema.specs.Tree.{Entry}
use Rattle.tough_schema.specs.Whole.{TreeDoc, HeldDoc, top_doc}
use Rattle.tough_schema.specs.Update.{listed_roles}
use Rattle.tough_schema.specs.Search.{Names}
use Rattle.tough_trust.specs.delegations.Indexed.{Index, no_index, put, names_of}
use Rattle.tough_update.specs.delegations.Numbered.{NodeDoc, Nodes, targets, also, last_number, last_document, roles_at, tree_of, unnamed}

-- what a snapshot lists
abbrev pub Metas : Type 0
Metas = List (List ℕ × MetafileDoc)

-- what it lists for a role
abbrev pub listed_as : Metas → List ℕ → Option MetafileDoc
listed_as metas name = lookup (bytes_eq (name ++ codes ".json")) metas

-- ---- looking at a list

-- what comes next in a list of roles
pub data Look : Type 0 where
  -- nothing more is to be fetched
  through : Look
  -- this name isn't in the snapshot, which ends the work on the list
  unlisted : List ℕ → Look
  -- the document of the first of these roles is to be fetched, as the snapshot's entry says
  wanted : List Entry → MetafileDoc → Look

abbrev pub looked : Entry → List Entry → Option MetafileDoc → Look
looked e rest None = unlisted e.name
looked e rest (Some m) = wanted (e ∷ rest) m

-- names that were loaded are passed over
abbrev pub look : Metas → Names → List Entry → Look
look metas loaded [] = through
look metas loaded (e ∷ rest) = if loaded e.name then look metas loaded rest else looked e rest (listed_as metas e.name)

-- ---- the documents of a list

-- those that were fetched, by the names of their roles
abbrev pub Fetched : Type 0
Fetched = List (List ℕ × HeldDoc)

abbrev pub at_name : List ℕ → List ℕ → Bool
at_name name = is_at (slice_cmp nat_cmp name)

abbrev pub fetched_for : Entry → Fetched → Option HeldDoc
fetched_for e fetched = lookup (at_name e.name) fetched

-- of two roles of one name the first gets it
abbrev pub fetched_after : Entry → Fetched → Fetched
fetched_after e fetched = remove_entry (at_name e.name) fetched

-- ---- the roles' turns

-- a list whose roles get their documents
pub record TaskDoc : Type 0 where
  -- the number of the document that lists them
  pub node : ℕ
  -- the place of the role whose turn is next
  pub at : ℕ
  -- what was fetched for the roles from that one on
  pub fetched : Fetched

-- a role whose name was loaded by then gets no document
abbrev pub offer_for : Names → ℕ → ℕ → Entry → Option HeldDoc → Option NodeDoc
offer_for loaded number place e None = None
offer_for loaded number place e (Some h) = if loaded e.name then None else Some (record { parent = number; at = place; document = h })

-- what a role's turn comes to
pub data Turn : Type 0 where
  past : Nodes → Index → Turn
  -- the list of its document is to be fetched, the last of these
  stopped : Nodes → List Entry → MetafileDoc → Index → Turn

abbrev pub turn_by_look : Nodes → Index → Look → Turn
turn_by_look nodes index through = past nodes index
turn_by_look nodes index (unlisted name) = past nodes (put name None index)
turn_by_look nodes index (wanted waiting m) = stopped nodes waiting m index

-- a document gets its place, the next number, and its name in the index
abbrev pub place_node : Metas → Nodes → Index → List ℕ → NodeDoc → Turn
place_node metas nodes index name n =
    let more = put name (Some (last_number (also nodes n))) index in turn_by_look (also nodes n) more (look metas (names_of more) (listed_roles n.document.below))

abbrev pub turn : Metas → Index → Nodes → Entry → Option NodeDoc → Turn
turn metas index nodes e None = past nodes index
turn metas index nodes e (Some n) = place_node metas nodes index e.name n

-- what the turns of the roles that are left come to
pub data Turns : Type 0 where
  all_past : Nodes → Index → Turns
  stopped_at : Nodes → TaskDoc → List Entry → MetafileDoc → Index → Turns

abbrev pub by_turn : TaskDoc → Turn → (Nodes → Index → Turns) → Turns
by_turn left (past nodes index) next = next nodes index
by_turn left (stopped nodes waiting m index) next = stopped_at nodes left waiting m index

abbrev pub turns : Metas → Index → Nodes → ℕ → ℕ → Fetched → List Entry → Turns
turns metas index nodes number place fetched [] = all_past nodes index
turns metas index nodes number place fetched (e ∷ rest) =
    by_turn (record { node = number; at = suc place; fetched = fetched_after e fetched })
    (turn metas index nodes e (offer_for (names_of index) number place e (fetched_for e fetched)))
    (λ ns x. turns metas x ns number (suc place) (fetched_after e fetched) rest)

-- ---- the whole

pub record WorkDoc : Type 0 where
  -- the documents that have their place; the list of the last one is being fetched
  pub nodes : Nodes
  -- the lists whose roles get their documents, the innermost first
  pub outer : List TaskDoc
  pub index : Index
  pub fetched : Fetched
  -- the roles of the list from the one on whose document is wanted
  pub waiting : List Entry

pub data Progress : Type 0 where
  -- a document is wanted, as the snapshot's entry says
  wants : WorkDoc → MetafileDoc → Progress
  -- the tree is complete
  grown : SignedDoc TreeDoc → Progress

abbrev pub by_turns : List TaskDoc → Turns → (Nodes → Index → Progress) → Progress
by_turns outer (all_past nodes index) next = next nodes index
by_turns outer (stopped_at nodes t waiting m index) next = wants (record { nodes = nodes; outer = t ∷ outer; index = index; fetched = []; waiting = waiting }) m

-- the roles of a list that are left get their turns
abbrev pub resumed : Metas → Index → Nodes → TaskDoc → Turns
resumed metas index nodes t = turns metas index nodes t.node t.at t.fetched (drop t.at (roles_at t.node nodes))

-- a list is done, and so on outwards
abbrev pub settle : Metas → Index → Nodes → List TaskDoc → Progress
settle metas index nodes [] = grown (unnamed (tree_of nodes))
settle metas index nodes (t ∷ outer) = by_turns outer (resumed metas index nodes t) (λ ns x. settle metas x ns outer)

-- a list was fetched: its roles get their turns
abbrev pub give : Metas → WorkDoc → Progress
give metas w = settle metas w.index w.nodes (record { node = last_number w.nodes; at = 0; fetched = w.fetched } ∷ w.outer)

-- a list was looked at
abbrev pub by_look : Metas → WorkDoc → Look → Progress
by_look metas w through = give metas w
by_look metas w (unlisted name) = settle metas (put name None w.index) w.nodes w.outer
by_look metas w (wanted waiting m) = wants (record w { waiting = waiting }) m

abbrev pub go_on : Metas → WorkDoc → Progress
go_on metas w = by_look metas w (look metas (names_of w.index) w.waiting)

-- nothing was fetched yet
abbrev pub first_work : HeldDoc → WorkDoc
first_work top = record { nodes = targets top; outer = []; index = no_index; fetched = []; waiting = listed_roles top.below }

abbrev pub begun : Metas → HeldDoc → Progress
begun metas top = go_on metas (first_work top)

-- the role whose document is wanted
abbrev pub first_of : List Entry → Option Entry
first_of [] = None
first_of (e ∷ rest) = Some e

-- its name
abbrev pub first_name : List Entry → List ℕ
first_name [] = []
first_name (e ∷ rest) = e.name

abbrev pub wanted_name : WorkDoc → List ℕ
wanted_name w = first_name w.waiting

-- the document whose list is being fetched
abbrev pub here : WorkDoc → HeldDoc
here w = last_document w.nodes

-- the delegations that the role stands in
abbrev pub holder_of : WorkDoc → Option DelegationsDoc
holder_of w = (top_doc (here w).below).delegations

-- of two documents of one name the later one counts
abbrev pub with_taken : WorkDoc → List Entry → HeldDoc → WorkDoc
with_taken w [] h = w
with_taken w (e ∷ rest) h = record w { fetched = insert_entry (slice_cmp nat_cmp) w.fetched e.name h; waiting = rest }

-- the document that was wanted is there
abbrev pub taken : Metas → WorkDoc → HeldDoc → Progress
taken metas w h = go_on metas (with_taken w w.waiting h)
