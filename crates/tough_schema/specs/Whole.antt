-- A document with the documents that were loaded for its roles, and for theirs, as plain data
-- (TUF specification 1.0, section 4.5).
use Rattle.std.specs.Prelude.{◌≡◌, ℕ, List, [], ◌∷◌, map, Option, Some, None, option_map, string_bytes}
use Rattle.std.specs.Int.NonZero.{non_zero_u64_get}
use Rattle.serde_json.specs.Data.{Members}
use Rattle.serde_json.specs.View.{members_view}
use Rattle.tough_decoded.specs.Spelled.{Spelled}
use Rattle.tough_keys.specs.Key.{KeyDoc}
use Rattle.tough_roles.specs.Head.{Head}
use Rattle.tough_roles.specs.Signature.{SignatureDoc, signatures_doc}
use Rattle.tough_roles.specs.Root.{keys_doc}
use Rattle.tough_schema.specs.Paths.{paths_doc}
use Rattle.tough_schema.specs.Targets.{TargetsDoc, listing_doc, targets_doc}
use Rattle.tough_schema.specs.Tree.{Listing, Entry}
use Rattle.std.specs.Borrow.{Bor}
use Rattle.tough_roles.specs.declared.signed.Signed.{Signed}
use Rattle.tough_schema.specs.declared.delegations.DelegatedRole.{DelegatedRole, fold-DelegatedRole}
use Rattle.tough_schema.specs.declared.targets.DelegatedTargets.{DelegatedTargets, fold-DelegatedTargets}
use Rattle.tough_schema.specs.declared.delegations.Delegations.{Delegations, fold-Delegations}
use Rattle.tough_schema.specs.declared.targets.Targets.{Targets, fold-Targets}
use Rattle.tough_schema.specs.declared.delegations.DelegatedRole.TheOpen.{DelegatedRole-F, DelegatedTargets-F, Delegations-F, Targets-F}

-- a document but for its roles; no keys where it has no delegations
pub record OwnDoc : Type 0 where
  pub head : Head
  pub targets : Listing
  pub keys : Option (List (Spelled × KeyDoc))
  pub extra : Members

mutual
  -- a document with its roles
  pub data TreeDoc : Type 0 where
    tree : OwnDoc → Branches → TreeDoc

  -- roles in their order, each without a document, or with one under its name and with its signatures
  pub data Branches : Type 0 where
    no_branches : Branches
    unloaded : Entry → Branches → Branches
    loaded : Entry → List ℕ → List SignatureDoc → TreeDoc → Branches → Branches

-- what the document lists
abbrev pub listing_of : TreeDoc → Listing
listing_of (tree o bs) = o.targets

-- a role's document, with its name and its signatures
pub record HeldDoc : Type 0 where
  pub name : List ℕ
  pub signatures : List SignatureDoc
  pub below : TreeDoc

-- a role, and its document if it has one
abbrev pub RoleTree : Type 0
RoleTree = Entry × Option HeldDoc

abbrev pub put_branch : RoleTree → Branches → Branches
put_branch (e, None) bs = unloaded e bs
put_branch (e, Some h) bs = loaded e h.name h.signatures h.below bs

abbrev pub branches_from : List RoleTree → Branches
branches_from [] = no_branches
branches_from (r ∷ rs) = put_branch r (branches_from rs)

-- ---- the view

-- a document and its name
abbrev pub NamedTree : Type 0
NamedTree = List ℕ × TreeDoc

-- the keys and the roles of delegations
abbrev pub DelegationsTree : Type 0
DelegationsTree = List (Spelled × KeyDoc) × Branches

-- one level each, with what is below already seen
abbrev pub role_level : DelegatedRole-F RoleTree DelegationsTree NamedTree TreeDoc → RoleTree
role_level r = (
  record { name = string_bytes r.name; keyids = r.keyids.items; threshold = non_zero_u64_get r.threshold; paths = paths_doc r.paths; terminating = r.terminating },
  option_map (λ s. record { name = s.signed.0; signatures = signatures_doc s.signatures.items; below = s.signed.1 }) r.targets,
)

abbrev pub delegated_level : DelegatedTargets-F RoleTree DelegationsTree NamedTree TreeDoc → NamedTree
delegated_level d = (string_bytes d.name, d.targets)

abbrev pub delegations_level : Delegations-F RoleTree DelegationsTree NamedTree TreeDoc → DelegationsTree
delegations_level g = (keys_doc g.keys.entries, branches_from g.roles.items)

abbrev pub branches_of : Option DelegationsTree → Branches
branches_of None = no_branches
branches_of (Some g) = g.1

abbrev pub targets_level : Targets-F RoleTree DelegationsTree NamedTree TreeDoc → TreeDoc
targets_level t = tree (record {
  head = record { spec_version = string_bytes t.spec_version; version = non_zero_u64_get t.version; expires = t.expires.nanosecond };
  targets = listing_doc t.targets.entries;
  keys = option_map (λ g. g.0) t.delegations;
  extra = members_view t._extra.entries;
}) (branches_of t.delegations)

abbrev pub tree_doc : Targets → TreeDoc
tree_doc = fold-Targets RoleTree DelegationsTree NamedTree TreeDoc role_level delegations_level delegated_level targets_level

abbrev pub delegations_tree : Delegations → DelegationsTree
delegations_tree = fold-Delegations RoleTree DelegationsTree NamedTree TreeDoc role_level delegations_level delegated_level targets_level

abbrev pub named_tree : DelegatedTargets → NamedTree
named_tree = fold-DelegatedTargets RoleTree DelegationsTree NamedTree TreeDoc role_level delegations_level delegated_level targets_level

abbrev pub role_tree : DelegatedRole → RoleTree
role_tree = fold-DelegatedRole RoleTree DelegationsTree NamedTree TreeDoc role_level delegations_level delegated_level targets_level

abbrev pub role_branches : List DelegatedRole → Branches
role_branches rs = branches_from (map role_tree rs)

-- ---- changes

-- another listing in the top document; all else as it is
abbrev pub with_listing : (Listing → Listing) → TreeDoc → TreeDoc
with_listing change (tree o bs) = tree (record o { targets = change o.targets }) bs

-- no document of the tree lists anything; all else as it is
abbrev mutual
  pub cleared : TreeDoc → TreeDoc
  cleared (tree o bs) = tree (record o { targets = [] }) (all_cleared bs)

  pub all_cleared : Branches → Branches
  all_cleared no_branches = no_branches
  all_cleared (unloaded e bs) = unloaded e (all_cleared bs)
  all_cleared (loaded e name signatures t bs) = loaded e name signatures (cleared t) (all_cleared bs)

abbrev pub held_cleared : HeldDoc → HeldDoc
held_cleared h = record h { below = cleared h.below }

abbrev pub role_cleared : RoleTree → RoleTree
role_cleared r = (r.0, option_map held_cleared r.1)

-- ---- the documents of the roles

abbrev pub held_doc : Signed DelegatedTargets → HeldDoc
held_doc s = record { name = (named_tree s.signed).0; signatures = signatures_doc s.signatures.items; below = (named_tree s.signed).1 }

abbrev pub held_docs : List (Bor (Signed DelegatedTargets)) → List HeldDoc
held_docs ss = map (λ s. held_doc s.now) ss

-- ---- what a document says for itself

abbrev pub entries_in : Branches → List Entry
entries_in no_branches = []
entries_in (unloaded e bs) = e ∷ entries_in bs
entries_in (loaded e name signatures t bs) = e ∷ entries_in bs

-- the document without those of its roles
abbrev pub top_doc : TreeDoc → TargetsDoc
top_doc (tree o bs) = record { head = o.head; targets = o.targets; delegations = option_map (λ ks. record { keys = ks; roles = entries_in bs }) o.keys; extra = o.extra }

abbrev pub TellsItsTop : Type 0
TellsItsTop = (t : Targets) → targets_doc t ≡ top_doc (tree_doc t)
