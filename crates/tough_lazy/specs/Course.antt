-- The search for a target as far as the documents of delegated roles are there (TUF specification 1.0, section 5.6.7): in preorder, into the
-- roles whose path sets match, into no name twice; behind a terminating role it ends.
use Rattle.std.specs.Prelude.{ℕ, suc, List, [], ◌∷◌, Option, Some, None, if◌then◌else◌}
use Rattle.tough_names.specs.Named.{Named}
use Rattle.tough_schema.specs.Delegations.{DelegationsDoc}
use Rattle.tough_schema.specs.Putting.{wide}
use Rattle.tough_schema.specs.Search.{Names, no_names, add, is_new, listed}
use Rattle.tough_schema.specs.Target.{TargetDoc}
use Rattle.tough_schema.specs.Tree.{Entry}
use Rattle.tough_schema.specs.Whole.{TreeDoc, tree, Branches, no_branches, unloaded, loaded, top_doc}

-- A role whose document is needed: the way to it, from the top on, with a place for each list, counted from the list's end; the delegations that
-- it stands in, and its entry there.
pub record Need : Type 0 where
  pub way : List ℕ
  pub delegations : Option DelegationsDoc
  pub entry : Entry

-- what a search comes to in a list of roles
pub data Course : Type 0 where
  -- a document that lists the name so
  found : TargetDoc → Course
  -- a role whose document isn't there
  needs : Need → Course
  -- the end of a terminating role
  ended : Course
  -- the end of the list; these names were reached
  past : Names → Course

-- the role that is needed stands below that place
abbrev pub below : ℕ → Need → Need
below place n = record n { way = place ∷ n.way }

-- below the role at a place, and then behind it
abbrev pub onward : ℕ → Entry → Course → (Names → Course) → Course
onward place e (found t) next = found t
onward place e (needs n) next = needs (below place n)
onward place e ended next = ended
onward place e (past seen) next = if e.terminating then ended else next seen

abbrev pub or_below : Option TargetDoc → Course → Course
or_below (Some t) c = found t
or_below None c = c

abbrev mutual
  pub course : Named → Names → Option DelegationsDoc → Branches → Course
  course name seen g no_branches = past seen
  course name seen g (unloaded e bs) =
      if is_new name seen e then needs (record { way = suc (wide bs) ∷ []; delegations = g; entry = e }) else course name seen g bs
  course name seen g (loaded e n signatures t bs) =
      if is_new name seen e then onward (suc (wide bs)) e (course_in name (add e.name seen) t) (λ more. course name more g bs) else course name seen g bs

  pub course_in : Named → Names → TreeDoc → Course
  course_in name seen (tree o bs) = or_below (listed name o.targets) (course name seen (top_doc (tree o bs)).delegations bs)

-- what a search for the name comes to
pub data Sought : Type 0 where
  listed_so : TargetDoc → Sought
  needed : Need → Sought
  unlisted : Sought

abbrev pub sought_by : Course → Sought
sought_by (found t) = listed_so t
sought_by (needs n) = needed n
sought_by ended = unlisted
sought_by (past seen) = unlisted

abbrev pub sought : Named → TreeDoc → Sought
sought name t = sought_by (course_in name no_names t)
