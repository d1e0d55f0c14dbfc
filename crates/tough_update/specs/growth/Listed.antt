-- That each document that is wanted is listed by the snapshot, for a role of the document whose list is being fetched
-- (TUF specification 1.0, section 5.6.7).
use Rattle.std.specs.Prelude.{◌≡◌, List, ◌∷◌, ◌++◌, Some, ⊤}
use Rattle.tough_roles.specs.Timestamp.{MetafileDoc}
use Rattle.tough_schema.specs.Tree.{Entry}
use Rattle.tough_schema.specs.Update.{listed_roles}
use Rattle.tough_update.specs.delegations.Growing.{Metas, listed_as, here, Progress, wants, grown}

-- the first role that waits is one of those, and the snapshot lists its document so
pub record IsListed (metas : Metas) (roles waiting : List Entry) (m : MetafileDoc) : Type 0 where
  pub role : Entry
  pub before : List Entry
  pub after : List Entry
  pub first : waiting ≡ role ∷ after
  pub among : roles ≡ before ++ waiting
  pub listed : listed_as metas role.name ≡ Some m

abbrev pub WantsListed : Metas → Progress → Type 0
WantsListed metas (wants w m) = IsListed metas (listed_roles (here w).below) w.waiting m
WantsListed metas (grown t) = ⊤
