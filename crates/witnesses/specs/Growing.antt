-- Targets that delegate to one role, and the role's document.
use Rattle.std.specs.Prelude.{◌≡◌, List, [], ◌∷◌, pos, true, false, IsTrue, None, Some, codes}
use Rattle.serde_json.specs.Data.{no_members}
use Rattle.tough_roles.specs.Signature.{SignedDoc}
use Rattle.tough_schema.specs.Paths.{patterns}
use Rattle.tough_schema.specs.Tree.{Entry}
use Rattle.tough_schema.specs.Whole.{TreeDoc, tree, OwnDoc, HeldDoc, no_branches, unloaded, loaded}
use Rattle.tough_update.specs.delegations.Growing.{Metas, grown, begun}
use Rattle.tough_update.specs.growth.Once.{IsBare, AreBare, runs}
use Rattle.tough_update.specs.growth.Under.{AllTaken}

-- a document of version 1 that lists nothing
abbrev pub own : OwnDoc
own = record { head = record { spec_version = codes "1.0.0"; version = 1; expires = pos 0 }; targets = []; keys = Some []; extra = no_members }

abbrev pub role_a : Entry
role_a = record { name = codes "a"; keyids = []; threshold = 1; paths = patterns []; terminating = false }

-- the targets as they are read
abbrev pub top : HeldDoc
top = record { name = []; signatures = []; below = tree own (unloaded role_a no_branches) }

-- the role's document
abbrev pub leaf : HeldDoc
leaf = record { name = codes "a"; signatures = []; below = tree own no_branches }

-- what the snapshot lists
abbrev pub metas : Metas
metas = (codes "a.json", record { version = 1; length = None; hashes = None; extra = no_members }) ∷ []

-- the tree that they make
abbrev pub whole : SignedDoc TreeDoc
whole = record { role = tree own (loaded role_a (codes "a") [] (tree own no_branches) no_branches); signatures = [] }

-- all that `grows_once` and `grows_under` ask of them
pub record HasGrown : Type 0 where
  pub bare : IsBare top
  pub all_bare : AreBare (leaf ∷ [])
  pub taken : AllTaken (λ g name page. IsTrue true) metas (begun metas top) (leaf ∷ [])
  pub runs_to : runs metas (begun metas top) (leaf ∷ []) ≡ grown whole
