-- What an update that succeeds vouches for (TUF specification 1.0, section 5).
use Rattle.std.specs.Prelude.{◌≡◌, ◌⊎◌, ◌≤◌, ◌≤ℤ◌, ℕ, List, ◌++◌, length, codes, Option, Some, None, IfSome}
use Rattle.tough_keys.specs.Same.{Verifies}
use Rattle.tough_roles.specs.Signature.{SignedDoc}
use Rattle.tough_roles.specs.Root.{RootDoc, root_json}
use Rattle.tough_roles.specs.Timestamp.{MetafileDoc, timestamp_json}
use Rattle.tough_roles.specs.Snapshot.{snapshot_json}
use Rattle.tough_roles.specs.Chain.{ReachesUnder, IsNext}
use Rattle.tough_roles.specs.declared.role_type.RoleType.TheVariants as role
use Rattle.tough_checks.specs.Documents.{root_in, snapshot_in}
use Rattle.tough_roles.specs.Timestamp.{metafile_in}
use Rattle.tough_schema.specs.Targets.{TargetsDoc, targets_json}
use Rattle.tough_schema.specs.Delegations.{DelegationsDoc}
use Rattle.tough_schema.specs.Verify.{ReachesDelegated}
use Rattle.tough_schema.specs.Whole.{TreeDoc}
use Rattle.tough_schema.specs.Fresh.{carriers_below}
use Rattle.tough_schema.specs.Entries.{IsValid}
use Rattle.tough_trust.specs.delegations.Bare.{top_page}
use Rattle.tough_update.specs.growth.Once.{Distinct}
use Rattle.tough_update.specs.growth.Under.{Below}
use Rattle.tough_checks.specs.Files.{snapshot_file, targets_file}
use Rattle.tough_net.specs.Digests.{HasDigests}
use Rattle.tough_trust.specs.Requests.{stated_digests}
use Rattle.tough_trust.specs.Listed.{targets_in}
use Rattle.tough_update.specs.Stages.{KnownDoc}

-- A chain of roots ends in this one: it begins with such a root, and each other one follows the one before it.
pub data Chain (verifies : Verifies) (begins : SignedDoc RootDoc → Type 0) : SignedDoc RootDoc → Type 0 where
  starts : (r : SignedDoc RootDoc) → begins r → Chain verifies begins r
  followed : (r s : SignedDoc RootDoc) → Chain verifies begins r → IsNext verifies r s → Chain verifies begins s

-- the root was handed in as these bytes, and reaches its own threshold
pub record IsHandedIn (verifies : Verifies) (bytes : List ℕ) (r : SignedDoc RootDoc) : Type 0 where
  pub reading : root_in bytes ≡ Some r
  pub signed : ReachesUnder verifies r.role role.Root root_json r

-- a chain may begin with the root that was handed in, or with one that was given and reaches its own threshold
abbrev pub Begins : Verifies → List ℕ → (SignedDoc RootDoc → Type 0) → SignedDoc RootDoc → Type 0
Begins verifies bytes given r = IsHandedIn verifies bytes r ⊎ (given r × ReachesUnder verifies r.role role.Root root_json r)

-- an entry names this document: there are bytes that are the document, with each digest and within the length that the entry states, and
-- the document has the listed version
pub record Named {D : Type 0} (reads : List ℕ → Option D) (entry : MetafileDoc) (version : ℕ) (doc : D) : Type 0 where
  pub bytes : List ℕ
  pub reading : reads bytes ≡ Some doc
  pub digests : HasDigests (stated_digests entry.hashes) bytes
  pub size : IfSome entry.length (λ n. length bytes ≤ n)
  pub listed : version ≡ entry.version

-- what a list of entries says under a name names this document
abbrev pub Lists : {D : Type 0} → (List ℕ → Option D) → List (List ℕ × MetafileDoc) → List ℕ → ℕ → D → Type 0
Lists reads entries name version doc = (entry : MetafileDoc) × (metafile_in entries name ≡ Some entry) × Named reads entry version doc

-- Delegations, which must be there, vouch for the document of a role: its signatures reach the threshold of the first role of the name, and
-- what is listed under that name names it.
abbrev pub IsVouched : Verifies → List (List ℕ × MetafileDoc) → Option DelegationsDoc → List ℕ → SignedDoc TargetsDoc → Type 0
IsVouched verifies entries None name d = ⊥
IsVouched verifies entries (Some g) name d = ReachesDelegated verifies g name targets_json d × Lists targets_in entries (name ++ codes ".json") d.role.head.version d

-- the targets have the documents of the delegated roles, as far as they were loaded
pub record Trusted (verifies : Verifies) (bytes : List ℕ) (given : SignedDoc RootDoc → Type 0) (k : KnownDoc) (targets : SignedDoc TreeDoc) : Type 0 where
  pub root : Chain verifies (Begins verifies bytes given) k.root
  pub timestamp : ReachesUnder verifies k.root.role role.Timestamp timestamp_json k.timestamp
  -- the timestamp lists the snapshot alone
  pub alone : length k.timestamp.role.meta ≡ 1
  pub snapshot : ReachesUnder verifies k.root.role role.Snapshot snapshot_json k.snapshot
  pub snapshot_named : Lists snapshot_in k.timestamp.role.meta snapshot_file k.snapshot.role.head.version k.snapshot
  pub targets_signed : ReachesUnder verifies k.root.role role.Targets targets_json (top_page targets)
  pub targets_named : Lists targets_in k.snapshot.role.meta targets_file (top_page targets).role.head.version (top_page targets)
  -- the delegations that each delegated document stands under vouch for it
  pub delegated : Below (IsVouched verifies k.snapshot.role.meta) targets.role
  -- no role's name has a document twice
  pub once : Distinct (carriers_below targets.role)
  -- each name that is listed is found by the permissive search
  pub found : IsValid targets.role

-- the update began after no expiry
pub record Unexpired (k : KnownDoc) (d : SignedDoc TreeDoc) : Type 0 where
  pub root : k.start ≤ℤ k.root.role.head.expires
  pub timestamp : k.start ≤ℤ k.timestamp.role.head.expires
  pub snapshot : k.start ≤ℤ k.snapshot.role.head.expires
  pub targets : k.start ≤ℤ (top_page d).role.head.expires
  pub delegated : Below (λ g name page. k.start ≤ℤ page.role.head.expires) d.role
