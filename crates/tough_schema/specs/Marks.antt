-- Which roles a search for a name reaches, by marks on their places (TUF specification 1.0, section 5.6.7).
use Rattle.std.specs.Prelude.{◌≡◌, ◌↔◌, ◌<◌, List, map, filter, Bool, true, false}
use Rattle.std.specs.List.{AllByRecursion}
use Rattle.std.specs.Str.{bytes_eq}
use Rattle.tough_names.specs.Named.{Named}
use Rattle.tough_schema.specs.Whole.{TreeDoc}
use Rattle.tough_schema.specs.Preorder.{Occurrence, stop, preorder_below}
use Rattle.tough_schema.specs.Search.{matches, reached}

-- a role at its place, and whether it is reached
abbrev pub Mark : Type 0
Mark = Occurrence × Bool

-- the first stands in the subtree of the second
abbrev pub IsBelow : Occurrence → Occurrence → Type 0
IsBelow o p = (p.start < o.start) × (o.start < stop p)

-- The path set matches, all roles below which it stands are reached, and no earlier one that is reached has its name.
pub record IsReached (name : Named) (all : List Mark) (o : Occurrence) : Type 0 where
  pub fits : matches name o.role.0 ≡ true
  pub above : AllByRecursion (λ p. IsBelow o p.0 → p.1 ≡ true) all
  pub first : AllByRecursion (λ p. p.0.start < o.start → p.1 ≡ true → bytes_eq p.0.role.0.name o.role.0.name ≡ false) all

-- the marks say which are reached
abbrev pub AreMarked : Named → List Mark → Type 0
AreMarked name all = AllByRecursion (λ m. (m.1 ≡ true) ↔ IsReached name all m.0) all

-- There is one way to mark the roles of the tree, and the search reaches those that are so marked.
pub record ReachesExactly (name : Named) (t : TreeDoc) : Type 0 where
  pub marks : List Mark
  pub places : map (λ m. m.0) marks ≡ preorder_below 0 t
  pub marked : AreMarked name marks
  pub only : (others : List Mark) → map (λ m. m.0) others ≡ preorder_below 0 t → AreMarked name others → others ≡ marks
  pub reached : reached name t ≡ map (λ m. m.0) (filter (λ m. m.1) marks)
