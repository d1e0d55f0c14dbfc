-- The tree as it grows, by levels: the form in which the laws are shown. A level is a document whose roles get their documents, and each of its
-- roles that had its turn has all that is below it.
use Rattle.std.specs.Prelude.{ℕ, List, [], ◌∷◌, ◌++◌, Option, Some, None, is_some, if◌then◌else◌, ⊤, IfSome, length, ◌+◌}
use Rattle.std.specs.Ordering.{nat_cmp}
use Rattle.std.specs.Cmp.Lexicographic.{slice_cmp}
use Rattle.std.specs.Map.{lookup, remove_entry}
use Rattle.std.specs.BTreeMap.{insert_entry}
use Rattle.tough_roles.specs.Signature.{SignedDoc}
use Rattle.tough_roles.specs.Timestamp.{MetafileDoc}
use Rattle.tough_schema.specs.Delegations.{DelegationsDoc}
use Rattle.tough_schema.specs.Tree.{Entry}
use Rattle.tough_schema.specs.Whole.{TreeDoc, tree, branches_from, HeldDoc, RoleTree, top_doc}
use Rattle.tough_schema.specs.Update.{listed_roles}
use Rattle.tough_schema.specs.Entries.{entries}
use Rattle.tough_schema.specs.Search.{Names, no_names, add}
use Rattle.tough_update.specs.delegations.Growing.{Metas, Look, through, unlisted, wanted, look, Fetched, at_name, first_of}
use Rattle.tough_update.specs.growth.Once.{IsBare}
use Rattle.tough_update.specs.growth.Under.{Relation, page_of}

-- each role with what was fetched for it; of two roles of one name the first gets it
abbrev pub with_fetched : Fetched → List Entry → List RoleTree
with_fetched fetched [] = []
with_fetched fetched (e ∷ es) = (e, lookup (at_name e.name) fetched) ∷ with_fetched (remove_entry (at_name e.name) fetched) es

-- the document with these roles, where it has delegations
abbrev pub refilled : List RoleTree → TreeDoc → TreeDoc
refilled rs (tree o bs) = tree o (if is_some o.keys then branches_from rs else bs)

abbrev pub with_roles : List RoleTree → HeldDoc → HeldDoc
with_roles rs h = record h { below = refilled rs h.below }

-- ---- the roles' turns

-- a document whose roles get their documents
pub record OpenDoc : Type 0 where
  -- the document, without its roles
  pub document : HeldDoc
  -- the roles that had their turn
  pub done : List RoleTree
  -- the role whose turn it is: the work goes on in the list of its document
  pub role : Entry
  -- the roles after it, each with what was fetched for it
  pub left : List RoleTree

-- what a role's turn comes to
pub data Turn : Type 0 where
  past : RoleTree → Names → Turn
  -- the list of its document is to be fetched
  stopped : Entry → HeldDoc → List Entry → MetafileDoc → Names → Turn

abbrev pub turn_by_look : Entry → HeldDoc → Names → Look → Turn
turn_by_look e h loaded through = past (e, Some h) loaded
turn_by_look e h loaded (unlisted name) = past (e, Some h) (add name loaded)
turn_by_look e h loaded (wanted waiting m) = stopped e h waiting m loaded

-- a role whose name was loaded by then gets no document
abbrev pub turn : Metas → Names → RoleTree → Turn
turn metas loaded (e, None) = past (e, None) loaded
turn metas loaded (e, Some h) =
    if loaded e.name then past (e, None) loaded
    else turn_by_look e h (add e.name loaded) (look metas (add e.name loaded) (listed_roles h.below))

-- what the turns of the roles that are left come to
pub data Turns : Type 0 where
  all_past : HeldDoc → Names → Turns
  stopped_at : OpenDoc → HeldDoc → List Entry → MetafileDoc → Names → Turns

abbrev pub by_turn : HeldDoc → List RoleTree → List RoleTree → Turn → (RoleTree → Names → Turns) → Turns
by_turn d done left (past r loaded) next = next r loaded
by_turn d done left (stopped e h waiting m loaded) next = stopped_at (record { document = d; done = done; role = e; left = left }) h waiting m loaded

abbrev pub turns : Metas → Names → HeldDoc → List RoleTree → List RoleTree → Turns
turns metas loaded d done [] = all_past (with_roles done d) loaded
turns metas loaded d done (r ∷ left) = by_turn d done left (turn metas loaded r) (λ s l. turns metas l d (done ++ s ∷ []) left)

-- ---- the whole

pub record WorkDoc : Type 0 where
  -- the documents whose roles get their documents, the innermost first
  pub outer : List OpenDoc
  -- the names that were loaded, or aren't in the snapshot
  pub loaded : Names
  -- the document whose list is being fetched
  pub here : HeldDoc
  pub fetched : Fetched
  -- the roles of that list from the one on whose document is wanted
  pub waiting : List Entry

pub data Progress : Type 0 where
  -- a document is wanted, as the snapshot's entry says
  wants : WorkDoc → MetafileDoc → Progress
  -- the tree is complete
  grown : SignedDoc TreeDoc → Progress

abbrev pub by_turns : List OpenDoc → Turns → (HeldDoc → Names → Progress) → Progress
by_turns outer (all_past h loaded) next = next h loaded
by_turns outer (stopped_at o here waiting m loaded) next = wants (record { outer = o ∷ outer; loaded = loaded; here = here; fetched = []; waiting = waiting }) m

-- the role whose turn it is has its document complete, and those after it get their turns
abbrev pub taken_up : Metas → Names → HeldDoc → OpenDoc → Turns
taken_up metas loaded h o = turns metas loaded o.document (o.done ++ (o.role, Some h) ∷ []) o.left

-- a document is complete, and so on outwards
abbrev pub settle : Metas → Names → HeldDoc → List OpenDoc → Progress
settle metas loaded h [] = grown (record { role = h.below; signatures = h.signatures })
settle metas loaded h (o ∷ outer) = by_turns outer (taken_up metas loaded h o) (λ d l. settle metas l d outer)

-- a list was fetched: its roles get their turns
abbrev pub give : Metas → WorkDoc → Progress
give metas w =
    by_turns w.outer (turns metas w.loaded (with_roles [] w.here) [] (with_fetched w.fetched (listed_roles w.here.below)))
    (λ d l. settle metas l d w.outer)

-- a list was looked at
abbrev pub by_look : Metas → WorkDoc → Look → Progress
by_look metas w through = give metas w
by_look metas w (unlisted name) = settle metas (add name w.loaded) w.here w.outer
by_look metas w (wanted waiting m) = wants (record w { waiting = waiting }) m

abbrev pub go_on : Metas → WorkDoc → Progress
go_on metas w = by_look metas w (look metas w.loaded w.waiting)

-- nothing was fetched yet
abbrev pub first_work : HeldDoc → WorkDoc
first_work top = record { outer = []; loaded = no_names; here = top; fetched = []; waiting = listed_roles top.below }

abbrev pub begun : Metas → HeldDoc → Progress
begun metas top = go_on metas (first_work top)

-- the delegations that it stands in
abbrev pub holder_of : WorkDoc → Option DelegationsDoc
holder_of w = (top_doc w.here.below).delegations

-- of two documents of one name the later one counts
abbrev pub with_taken : WorkDoc → List Entry → HeldDoc → WorkDoc
with_taken w [] h = w
with_taken w (e ∷ rest) h = record w { fetched = insert_entry (slice_cmp nat_cmp) w.fetched e.name h; waiting = rest }

-- the document that was wanted is there
abbrev pub taken : Metas → WorkDoc → HeldDoc → Progress
taken metas w h = go_on metas (with_taken w w.waiting h)

-- ---- what a list of documents makes of a tree

abbrev pub runs : Metas → Progress → List HeldDoc → Progress
runs metas p [] = p
runs metas (wants w m) (h ∷ hs) = runs metas (taken metas w h) hs
runs metas (grown t) (h ∷ hs) = grown t

abbrev pub AllTaken : Relation → Metas → Progress → List HeldDoc → Type 0
AllTaken U metas p [] = ⊤
AllTaken U metas (grown t) (h ∷ hs) = ⊤
AllTaken U metas (wants w m) (h ∷ hs) = IsBare h × IfSome (first_of w.waiting) (λ e. U (holder_of w) e.name (page_of h)) × AllTaken U metas (taken metas w h) hs

-- ---- how many roles are listed, as far as it has grown

-- a role, and those below it
abbrev pub tally_role : RoleTree → ℕ
tally_role (e, None) = 1
tally_role (e, Some h) = 1 + length (entries h.below)

abbrev pub tally_roles : List RoleTree → ℕ
tally_roles [] = 0
tally_roles (r ∷ rs) = tally_role r + tally_roles rs

-- the roles of a document whose roles get their documents: those that had their turn, the one whose turn it is, and those that are left
abbrev pub tally_open : OpenDoc → ℕ
tally_open o = length o.left + 1 + tally_roles o.done

abbrev pub tally_opens : List OpenDoc → ℕ
tally_opens [] = 0
tally_opens (o ∷ os) = tally_open o + tally_opens os

-- the same, and the list that is being fetched
abbrev pub tally_work : WorkDoc → ℕ
tally_work w = length (listed_roles w.here.below) + tally_opens w.outer
