-- Roots that ask one policy of timestamps, and one of snapshots.
use Rattle.std.specs.Prelude.{◌≡◌, ℕ, List, Option, Some, ⊤}
use Rattle.tough_keys.specs.Same.{Verifies}
use Rattle.tough_roles.specs.Policy.{Policy, policy}
use Rattle.tough_roles.specs.Root.{RootDoc}
use Rattle.tough_roles.specs.Signature.{SignedDoc}
use Rattle.tough_checks.specs.StoredDocuments.{stored_root}
use Rattle.tough_roles.specs.declared.role_type.RoleType.TheVariants as role
use Rattle.tough_update.specs.Stages.{WalkDoc, BaseDoc, KnownDoc, WantedDoc, PendingDoc, StageDoc}
use Rattle.tough_update.specs.Stages as at

-- the root asks this of the signatures of a timestamp, and that of those of a snapshot
abbrev pub HasPolicy : Option Policy → Option Policy → RootDoc → Type 0
HasPolicy P Q root = (policy root role.Timestamp ≡ P) × (policy root role.Snapshot ≡ Q)

-- so does the root that a file holds, where it can be read and verifies itself
abbrev pub RootUnder : Verifies → Option Policy → Option Policy → Option (List ℕ) → Type 0
RootUnder verifies P Q file = (r : SignedDoc RootDoc) → stored_root verifies file ≡ Some r → HasPolicy P Q r.role

module _ (P Q : Option Policy) where
  abbrev pub WalkUnder : WalkDoc → Type 0
  WalkUnder w = HasPolicy P Q w.first.role × HasPolicy P Q w.last.role

  abbrev pub BaseUnder : BaseDoc → Type 0
  BaseUnder b = HasPolicy P Q b.root.role

  abbrev pub KnownUnder : KnownDoc → Type 0
  KnownUnder k = HasPolicy P Q k.root.role

  -- so do the roots of what an update knows: the first and the last one of a walk, or the one that its walk ended with
  abbrev pub WantedUnder : WantedDoc → Type 0
  WantedUnder (at.Root w) = WalkUnder w
  WantedUnder (at.Timestamp b) = BaseUnder b
  WantedUnder (at.Snapshot b t listed) = BaseUnder b
  WantedUnder (at.Targets k listed) = KnownUnder k
  WantedUnder (at.Role k roles listed) = KnownUnder k

  abbrev pub PendingUnder : PendingDoc → Type 0
  PendingUnder (at.NoteTime now) = ⊤
  PendingUnder (at.PutRoot w) = WalkUnder w
  PendingUnder (at.PutLast w) = WalkUnder w
  PendingUnder (at.PutTimestamp b t) = BaseUnder b
  PendingUnder (at.PutSnapshot k listed) = KnownUnder k
  PendingUnder (at.PutTargets k d) = KnownUnder k
  PendingUnder (at.PutDelegated k roles name d) = KnownUnder k

  abbrev pub StageUnder : StageDoc → Type 0
  StageUnder (at.ReadRoot w) = WalkUnder w
  StageUnder (at.Fetch w r) = WantedUnder w
  StageUnder (at.Step p) = PendingUnder p
  StageUnder _ = ⊤
