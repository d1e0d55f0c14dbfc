-- A tree that has, at its place, each document of another tree, and perhaps more documents (TUF specification 1.0, section 5.6.7).
use Rattle.std.specs.Prelude.{◌≡◌, ⊤, None}
use Rattle.tough_schema.specs.Whole.{TreeDoc, tree, Branches, no_branches, unloaded, loaded, HeldDoc}

-- The documents of the first are those of the second. A role that has none may have one there.
abbrev mutual
  pub Extends : TreeDoc → TreeDoc → Type 0
  Extends (tree o bs) (tree p cs) = (o ≡ p) × ExtendsIn bs cs

  pub ExtendsIn : Branches → Branches → Type 0
  ExtendsIn no_branches no_branches = ⊤
  ExtendsIn no_branches (unloaded f cs) = ⊥
  ExtendsIn no_branches (loaded f m rs u cs) = ⊥
  ExtendsIn (unloaded e bs) no_branches = ⊥
  ExtendsIn (unloaded e bs) (unloaded f cs) = (e ≡ f) × ExtendsIn bs cs
  ExtendsIn (unloaded e bs) (loaded f m rs u cs) = (e ≡ f) × ExtendsIn bs cs
  ExtendsIn (loaded e n ss t bs) no_branches = ⊥
  ExtendsIn (loaded e n ss t bs) (unloaded f cs) = ⊥
  ExtendsIn (loaded e n ss t bs) (loaded f m rs u cs) = (e ≡ f) × (n ≡ m) × (ss ≡ rs) × Extends t u × ExtendsIn bs cs

-- the document of a role, and perhaps more documents below it
pub record ExtendsHeld (h d : HeldDoc) : Type 0 where
  pub name : h.name ≡ d.name
  pub signatures : h.signatures ≡ d.signatures
  pub below : Extends h.below d.below

-- it has roles only where it has their keys, as each document does that is read
abbrev pub KeepsItsKeys : TreeDoc → Type 0
KeepsItsKeys (tree o bs) = o.keys ≡ None → bs ≡ no_branches
