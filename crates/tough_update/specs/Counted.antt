-- How far what an update counts may go, over any answers.
use Rattle.std.specs.Prelude.{◌≡◌, ◌≤◌, ◌⊎◌, ℕ, length, Ok}
use Rattle.tough_keys.specs.Same.{Verifies}
use Rattle.tough_net.specs.declared.limits.Limits.{Limits}
use Rattle.tough_schema.specs.Entries.{entries, documents_below}
use Rattle.tough_update.specs.declared.counts.Counts.{Counts}
use Rattle.tough_update.specs.Answered.{AnswerDoc}
use Rattle.tough_update.specs.Counts.{none_yet, with_fetch, with_tree}
use Rattle.tough_update.specs.Stages.{LoadedDoc, StageDoc, CoreDoc}
use Rattle.tough_update.specs.Stages as at
use Rattle.tough_update.specs.Promises.{Goes}
use Rattle.tough_update.specs.Runs.{IsFresh}

-- an update stands so after some answers, want of memory included, with what it counted by then
pub data Counted (verifies : Verifies) : CoreDoc → Counts → Type 0 where
  begun : (c : CoreDoc) → IsFresh c → Counted verifies c none_yet
  turned : (c d : CoreDoc) (n : Counts) (a : AnswerDoc) → Counted verifies c n → Goes verifies c a d
      → Counted verifies d (with_tree d.stage (with_fetch c.stage a n))

-- it stands so, or stood so before one of these answers
abbrev pub Passes : {verifies : Verifies} {c : CoreDoc} {n : Counts} → Counted verifies c n → CoreDoc → Type 0
Passes (begun c fresh) earlier = earlier ≡ c
Passes (turned c d n a before goes) earlier = (earlier ≡ d) ⊎ Passes before earlier

-- at a stage that the update passed, there were at least so many
pub record HadAsMany {verifies : Verifies} {c : CoreDoc} {n : Counts} (update : Counted verifies c n)
    (at_stage : StageDoc → ℕ) (count : ℕ) : Type 0 where
  pub earlier : CoreDoc
  pub passed : Passes update earlier
  pub few : count ≤ at_stage earlier.stage

-- once the snapshot was accepted: the names that it lists
abbrev pub names_listed : StageDoc → ℕ
names_listed (at.Fetch (at.Targets k listed) r) = length k.snapshot.role.meta
names_listed (at.Step (at.PutTargets k d)) = length k.snapshot.role.meta
names_listed (at.Fetch (at.Role k roles listed) r) = length k.snapshot.role.meta
names_listed (at.Step (at.PutDelegated k roles name d)) = length k.snapshot.role.meta
names_listed (at.Done (Ok l)) = length l.known.snapshot.role.meta
names_listed _ = 0

-- at most as many roots were fetched as the limit allows, and at most as many delegated documents as the targets and the documents that are
-- kept list roles
pub record FetchesFew (limits : Limits) (n : Counts) : Type 0 where
  pub roots : n.roots ≤ limits.max_root_updates
  pub delegated : n.delegated ≤ n.entries

-- at most as many documents are kept as the accepted snapshot lists names
abbrev pub KeepsFew : {verifies : Verifies} {c : CoreDoc} {n : Counts} → Counted verifies c n → Type 0
KeepsFew {n = n} update = HadAsMany update names_listed n.kept

-- The documents that are kept are those of the tree that was loaded, at most as many as the snapshot lists names, and the roles are all of
-- the tree's roles, at least as many as documents were fetched.
pub record KeepsAll (l : LoadedDoc) (n : Counts) : Type 0 where
  pub kept : n.kept ≡ length (documents_below l.targets.role)
  pub few : n.kept ≤ length l.known.snapshot.role.meta
  pub entries : n.entries ≡ length (entries l.targets.role)
  pub fetched : n.delegated ≤ n.entries
