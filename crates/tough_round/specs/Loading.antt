-- When the files of a signed repository can be loaded (TUF specification 1.0, section 5). The documents that the signers signed reach their
-- thresholds; of those that were taken over it is asked.
use Rattle.std.specs.Prelude.{◌≡◌, ◌≢◌, ◌⊎◌, ◌≤◌, ◌<◌, ◌+◌, ℕ, ℤ, ◌++◌, List, length, true, false, is_some, Option, Some, None, codes}
use Rattle.serde_json.specs.Data.{Members, members_depth}
use Rattle.serde_json.specs.Read.{max_depth}
use Rattle.tough_keys.specs.Same.{Verifies}
use Rattle.tough_roles.specs.Chain.{ReachesUnder}
use Rattle.tough_roles.specs.Readable.{NestsWithin}
use Rattle.tough_roles.specs.Root.{root_json}
use Rattle.tough_roles.specs.Signature.{SignedDoc, signed_json}
use Rattle.tough_roles.specs.declared.role_type.RoleType.TheVariants as types
use Rattle.tough_schema.specs.Delegations.{DelegationsDoc}
use Rattle.tough_schema.specs.Fresh.{carriers_below}
use Rattle.tough_schema.specs.Targets.{TargetsDoc, targets_json, KeysAreOwn}
use Rattle.tough_schema.specs.Verify.{ReachesDelegated}
use Rattle.tough_checks.specs.Checks.{is_expired}
use Rattle.tough_vault.specs.Steps.{time_text}
use Rattle.tough_trust.specs.delegations.Bare.{top_page}
use Rattle.tough_update.specs.Stages.{SettingDoc}
use Rattle.tough_update.specs.growth.Full.{IsFull}
use Rattle.tough_update.specs.growth.Once.{Distinct}
use Rattle.tough_update.specs.growth.Under.{Below}
use Rattle.tough_signed.specs.Roles.{buffer_of}
use Rattle.tough_edit.specs.Edits.{EditsDoc}
use Rattle.tough_release.specs.Edits.{ReleaseDoc}
use Rattle.tough_release.specs.Holding.{top_name}
use Rattle.tough_release.specs.Repository.{root_of, timestamp_of}
use Rattle.tough_release.specs.declared.repository.SignedRepository.{SignedRepository}
use Rattle.tough_round.specs.Files.{root_in_it, timestamp_in_it, snapshot_in_it, tree_in_it}

-- a name by which a delegated role's file is none of the other files
pub record IsRoleName (name : List ℕ) : Type 0 where
  pub root : name ≢ codes "root"
  pub targets : name ≢ codes "targets"
  pub snapshot : name ≢ codes "snapshot"
  pub timestamp : name ≢ codes "timestamp"
  pub tail : (m : List ℕ) → name ≢ m ++ codes ".root"

-- Extras of a role that nest no deeper than is read: they stand two levels below the JSON of the signed document.
abbrev pub IsShallow : Members → Type 0
IsShallow extra = members_depth extra + 2 ≤ max_depth

-- an editor of the role's document is open, whose document the signers sign
abbrev pub IsOpened : ReleaseDoc → List ℕ → Type 0
IsOpened e name = (editor : EditsDoc) × (e.editor ≡ Some editor) × (editor.name ≡ name)

-- delegations vouch for the role's document
abbrev pub Vouch : Verifies → Option DelegationsDoc → List ℕ → SignedDoc TargetsDoc → Type 0
Vouch verifies None name page = ⊥
Vouch verifies (Some g) name page = ReachesDelegated verifies g name targets_json page

module _ (verifies : Verifies) (s : SettingDoc) (start : ℤ) (e : ReleaseDoc) where
  -- A delegated role's document. The delegations in which the role stands vouch for it, or the signers sign it. Its keys stand under their own
  -- identifiers, its JSON is read, and it hasn't expired.
  pub record IsSound (g : Option DelegationsDoc) (name : List ℕ) (page : SignedDoc TargetsDoc) : Type 0 where
    pub named : IsRoleName name
    pub vouched : (IsOpened e name × (is_some g ≡ true)) ⊎ Vouch verifies g name page
    pub keys : KeysAreOwn page.role.delegations
    pub shallow : NestsWithin max_depth (signed_json targets_json page)
    pub in_time : is_expired s.enforced start page.role.head.expires ≡ false

  -- What is asked of a signed repository and of an update by these settings that begins at this moment.
  pub record MayLoad (r : SignedRepository) : Type 0 where
    -- the documents of delegated roles are loaded too
    pub whole : s.whole ≡ true
    -- the root that is handed in
    pub trusted : s.trusted ≡ buffer_of (root_of r)
    pub root_signed : ReachesUnder verifies (root_in_it r).role types.Root root_json (root_in_it r)
    pub root_in_time : is_expired s.enforced start (root_in_it r).role.head.expires ≡ false
    pub one_update : 0 < s.limits.max_root_updates
    pub start_text : time_text start ≢ None
    pub timestamp_size : length (buffer_of (timestamp_of r)) ≤ s.limits.max_timestamp_size
    pub timestamp_shallow : IsShallow e.timestamp.extra
    pub timestamp_in_time : is_expired s.enforced start (timestamp_in_it r).role.head.expires ≡ false
    pub snapshot_shallow : IsShallow e.snapshot.extra
    pub snapshot_in_time : is_expired s.enforced start (snapshot_in_it r).role.head.expires ≡ false
    pub targets_signed : IsOpened e top_name ⊎ ReachesUnder verifies (root_in_it r).role types.Targets targets_json (top_page (tree_in_it r))
    pub targets_keys : KeysAreOwn (top_page (tree_in_it r)).role.delegations
    pub targets_shallow : NestsWithin max_depth (signed_json targets_json (top_page (tree_in_it r)))
    pub targets_in_time : is_expired s.enforced start (top_page (tree_in_it r)).role.head.expires ≡ false
    -- each delegated role has a document under its name, and no two have one name
    pub full : IsFull (tree_in_it r).role
    pub once : Distinct (carriers_below (tree_in_it r).role)
    pub roles : Below IsSound (tree_in_it r).role
