-- Why a role's document doesn't come to the tree.
use Rattle.std.specs.Prelude.{◌≡◌, ◌⊎◌, ⊤, ℕ, List, ◌++◌, codes, None, Some, Bool, true, false, Result, Ok, Err, string_bytes}
use Rattle.tough_names.specs.Named.{Named}
use Rattle.tough_keys.specs.Same.{Verifies}
use Rattle.tough_roles.specs.Timestamp.{MetafileDoc}
use Rattle.tough_schema.specs.Whole.{TreeDoc}
use Rattle.tough_roles.specs.Signature.{SignedDoc}
use Rattle.tough_checks.specs.declared.checks.StepError.{StepError}
use Rattle.tough_net.specs.declared.limits.Limits.{Limits}
use Rattle.tough_vault.specs.Act.{Act}
use Rattle.tough_trust.specs.Failure.{Failure, IsRefused, failure_of}
use Rattle.tough_trust.specs.Faults.{fault_failure}
use Rattle.tough_trust.specs.declared.fault.Fault.{Fault}
use Rattle.tough_trust.specs.Requests.{fits_request}
use Rattle.tough_update.specs.Stages.{LoadedDoc}
use Rattle.tough_client.specs.declared.repository.Repository.{Repository}
use Rattle.tough_client.specs.Repositories.{documents_of, limits_of, enforced_of, keeping_of}
use Rattle.tough_lazy.specs.Course.{Need, needed}
use Rattle.tough_lazy.specs.Adding.{IsStored}
use Rattle.tough_lazy.specs.Documents.{AddedDoc, IsDocument, sought_in, entry_for, file_for, judged_for}
use Rattle.tough_lazy.specs.declared.error.FetchRolesError.{FetchRolesError}
use Rattle.tough_lazy.specs.declared.error.FetchRolesError.TheVariants as error

-- these are the names of the role and of its file, which the snapshot lists so
pub record IsAt (limits : Limits) (l : LoadedDoc) (n : Need) (name path : List ℕ) (m : MetafileDoc) : Type 0 where
  pub listed : entry_for l n ≡ Some m
  pub role : name ≡ n.entry.name
  pub file : path ≡ (file_for limits l n m).name

-- the error says that the snapshot lists no document of this role; want of memory may come in its place
abbrev pub SaysUnlisted : List ℕ → FetchRolesError → Type 0
SaysUnlisted name error.Memory = ⊤
SaysUnlisted name (error.Unlisted role file) = (string_bytes role ≡ name) × (string_bytes file ≡ name ++ codes ".json")
SaysUnlisted name _ = ⊥

-- the snapshot lists no document of the role; want of memory may come in its place
abbrev pub IsUnlisted : LoadedDoc → Need → FetchRolesError → Type 0
IsUnlisted l n error.Memory = ⊤
IsUnlisted l n (error.Unlisted role file) = (entry_for l n ≡ None) × (string_bytes role ≡ n.entry.name) × (string_bytes file ≡ n.entry.name ++ codes ".json")
IsUnlisted l n _ = ⊥

-- the error tells a fault of fetching the file of a role; want of memory may come in its place
abbrev pub TellsFault : List ℕ → List ℕ → Fault → FetchRolesError → Type 0
TellsFault role file f error.Memory = ⊤
TellsFault role file f (error.Role r p source) = (string_bytes r ≡ role) × (string_bytes p ≡ file) × (failure_of source ≡ fault_failure file f)
TellsFault role file f _ = ⊥

-- its file couldn't be fetched
abbrev pub IsUnfetched : Limits → LoadedDoc → Need → FetchRolesError → Type 0
IsUnfetched limits l n (error.Role role file source) = (m : MetafileDoc) × IsAt limits l n (string_bytes role) (string_bytes file) m
    × ((f : Fault) × (failure_of source ≡ fault_failure (string_bytes file) f))
IsUnfetched limits l n e = IsUnlisted l n e

module _ (verifies : Verifies) (limits : Limits) (enforced : Bool) (l : LoadedDoc) (n : Need) where
  -- the bytes aren't its document, and this is why
  abbrev pub IsWrong : List ℕ → FetchRolesError → Type 0
  IsWrong bytes (error.Unfit role file) = (m : MetafileDoc) × IsAt limits l n (string_bytes role) (string_bytes file) m × (fits_request (file_for limits l n m) bytes ≡ false)
  IsWrong bytes (error.Role role file source) = (m : MetafileDoc) × IsAt limits l n (string_bytes role) (string_bytes file) m
      × (fits_request (file_for limits l n m) bytes ≡ true) × IsRefused (failure_of source) (judged_for verifies enforced l n m bytes)
  IsWrong bytes e = IsUnlisted l n e

  -- the bytes are its document, with these names of the role and of its file
  pub record IsVerified (bytes role file : List ℕ) (d : SignedDoc TreeDoc) : Type 0 where
    pub entry : MetafileDoc
    pub is : IsDocument verifies limits enforced l (record { need = n; entry = entry; bytes = bytes; document = d })
    pub at : IsAt limits l n role file entry

-- it wasn't stored, and this is why
abbrev pub TellsStep : Limits → LoadedDoc → AddedDoc → Failure → FetchRolesError → Type 0
TellsStep limits l a f (error.Role role file source) = (string_bytes role ≡ a.need.entry.name) × (string_bytes file ≡ (file_for limits l a.need a.entry).name) × (failure_of source ≡ f)
TellsStep limits l a f e = ⊥

module _ {T K C R : Type 0} (keeps : Verifies → K → Act → Result R StepError → K → Type 0) (verifies : Verifies) (name : Named) (bytes : List ℕ) (old new : Repository T K C R) where
  -- the search needs a document, which the bytes aren't; nothing was stored
  pub record Denies (e : FetchRolesError) : Type 0 where
    pub need : Need
    pub needed : sought_in name (documents_of old) ≡ needed need
    pub wrong : IsWrong verifies (limits_of old) (enforced_of old) (documents_of old) need bytes e
    pub keeping : keeping_of new ≡ keeping_of old

  -- the keeper refused to store it
  pub record IsUnstored (e : FetchRolesError) : Type 0 where
    pub failure : Failure
    pub step : IsStored keeps verifies name bytes old new (Err failure)
    pub told : TellsStep (limits_of old) (documents_of old) step.added failure e

  -- there was no memory, before it was stored or behind that
  abbrev pub LacksMemory : FetchRolesError → Type 0
  LacksMemory e = (e ≡ error.Memory) × ((keeping_of new ≡ keeping_of old) ⊎ IsStored keeps verifies name bytes old new (Ok (tt {0})))

  -- Nothing has come to the documents, and this is why.
  pub record Fails (e : FetchRolesError) : Type 0 where
    pub documents : documents_of new ≡ documents_of old
    pub why : Denies e ⊎ (IsUnstored e ⊎ LacksMemory e)
