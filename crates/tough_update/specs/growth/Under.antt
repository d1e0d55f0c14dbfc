-- What stands under what in a tree of delegated documents (TUF specification 1.0, section 5.6.7).
use Rattle.std.specs.Prelude.{ℕ, List, [], ◌∷◌, Option, ⊤, IfSome}
use Rattle.tough_roles.specs.Signature.{SignedDoc}
use Rattle.tough_schema.specs.Delegations.{DelegationsDoc}
use Rattle.tough_schema.specs.Targets.{TargetsDoc}
use Rattle.tough_schema.specs.Whole.{TreeDoc, tree, Branches, no_branches, unloaded, loaded, HeldDoc, top_doc}
use Rattle.tough_update.specs.delegations.Growing.{Metas, Progress, wants, grown, first_of, holder_of, taken}
use Rattle.tough_update.specs.growth.Once.{IsBare}

-- the document without those of its roles
abbrev pub page_of : HeldDoc → SignedDoc TargetsDoc
page_of h = record { role = top_doc h.below; signatures = h.signatures }

-- what delegations may say of the document of a role of this name
abbrev pub Relation : Type 1
Relation = Option DelegationsDoc → List ℕ → SignedDoc TargetsDoc → Type 0

module _ (U : Relation) where
  -- the relation holds between each document and each of its roles that has one
  abbrev mutual
    pub Under : Option DelegationsDoc → Branches → Type 0
    Under g no_branches = ⊤
    Under g (unloaded e bs) = Under g bs
    Under g (loaded e name signatures t bs) = U g e.name (record { role = top_doc t; signatures = signatures }) × Below t × Under g bs

    pub Below : TreeDoc → Type 0
    Below (tree o bs) = Under (top_doc (tree o bs)).delegations bs

  -- each document that is taken was read, and stands so under the delegations that ask for it
  abbrev pub AllTaken : Metas → Progress → List HeldDoc → Type 0
  AllTaken metas p [] = ⊤
  AllTaken metas (grown t) (h ∷ hs) = ⊤
  AllTaken metas (wants w m) (h ∷ hs) = IsBare h × IfSome (first_of w.waiting) (λ e. U (holder_of w) e.name (page_of h)) × AllTaken metas (taken metas w h) hs
