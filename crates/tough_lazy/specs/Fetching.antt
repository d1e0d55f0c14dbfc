-- How the documents that a search needs are fetched (TUF specification 1.0, section 5.6.7).
use Rattle.std.specs.Prelude.{◌≡◌, ◌⊎◌, ⊤, ℕ, suc, List, Option, Some, None, Result, Ok, Err}
use Rattle.std.specs.Borrow.{MutBor}
use Rattle.url.specs.Parts.{Parts}
use Rattle.futures.specs.Runs.{Runs}
use Rattle.tough_names.specs.Named.{Named}
use Rattle.tough_keys.specs.Same.{Verifies}
use Rattle.tough_roles.specs.Timestamp.{MetafileDoc}
use Rattle.tough_checks.specs.declared.checks.StepError.{StepError}
use Rattle.tough_net.specs.declared.collect.Collect.{Collect}
use Rattle.tough_net.specs.Digests.{no_digests}
use Rattle.tough_net.specs.Items.{Item}
use Rattle.tough_vault.specs.Act.{Act}
use Rattle.tough_trust.specs.Requests.{RequestDoc}
use Rattle.tough_load.specs.Fetching.{IsStarted}
use Rattle.tough_update.specs.Stages.{LoadedDoc}
use Rattle.tough_client.specs.declared.repository.Repository.{Repository}
use Rattle.tough_client.specs.Repositories.{IsServedAs, documents_of, limits_of, enforced_of, keeping_of, clock_of, transport_of, metadata_base_of}
use Rattle.tough_lazy.specs.Course.{Need, needed}
use Rattle.tough_lazy.specs.Adding.{Adds, AddsNone}
use Rattle.tough_lazy.specs.Documents.{AddedDoc, Grows, IsSettled, sought_in, entry_for, file_for}
use Rattle.tough_lazy.specs.Telling.{Fails, IsUnfetched}
use Rattle.tough_lazy.specs.declared.error.FetchRolesError.{FetchRolesError}
use Rattle.tough_lazy.specs.declared.error.FetchRolesError.TheVariants as error
use Rattle.tough_lazy.specs.declared.fetch.FetchRoles.{FetchRoles}

-- the file as it is asked for: its digests are checked once it is there
abbrev pub unchecked : RequestDoc → RequestDoc
unchecked r = record r { digests = no_digests }

module _ {T K C V S R : Type 0} where
  abbrev pub repository_in : FetchRoles T K C V S R → MutBor (Repository T K C R)
  repository_in f = f.repository

  abbrev pub verifier_in : FetchRoles T K C V S R → V
  verifier_in f = f.verifier.now

  -- the name that is searched for
  abbrev pub name_in : FetchRoles T K C V S R → Named
  name_in f = f.name.now

  -- how many documents may be fetched, and how many of them are left
  abbrev pub most_in : FetchRoles T K C V S R → ℕ
  most_in f = f.most

  abbrev pub left_in : FetchRoles T K C V S R → ℕ
  left_in f = f.left

  -- the fetch that runs, if one does
  abbrev pub fetch_in : FetchRoles T K C V S R → Option (Collect S)
  fetch_in f = f.fetch

module _ {T K C S R : Type 0} (serves : T → Parts → Runs Item) (yields : S → Runs Item) where
  -- this fetches the document of a role that is needed
  pub record IsAskedFor (r : Repository T K C R) (n : Need) (f : Collect S) : Type 0 where
    pub entry : MetafileDoc
    pub listed : entry_for (documents_of r) n ≡ Some entry
    pub started : IsStarted serves yields (transport_of r) (metadata_base_of r) (unchecked (file_for (limits_of r) (documents_of r) n entry)) f

  -- this fetches the document that a search for the name needs
  abbrev pub Asks : Named → Repository T K C R → Collect S → Type 0
  Asks name r f = (n : Need) × (sought_in name (documents_of r) ≡ needed n) × IsAskedFor r n f

module _ {T K C R : Type 0} (name : Named) where
  -- there is no memory, or a document is needed that can't be fetched
  abbrev pub IsCut : Repository T K C R → FetchRolesError → Type 0
  IsCut r e = (e ≡ error.Memory) ⊎ ((n : Need) × (sought_in name (documents_of r) ≡ needed n) × IsUnfetched (limits_of r) (documents_of r) n e)

  -- or one more than may be
  abbrev pub IsUnasked : ℕ → ℕ → Repository T K C R → FetchRolesError → Type 0
  IsUnasked most left r e = IsCut r e ⊎ ((e ≡ error.TooMany most) × (left ≡ 0) × ((n : Need) × (sought_in name (documents_of r) ≡ needed n)))

module _ {T K C V S R : Type 0} where
  -- what it is about stays
  pub record Remains (old new : FetchRoles T K C V S R) : Type 0 where
    pub lent : (repository_in new).ghost_name ≡ (repository_in old).ghost_name
    pub served : IsServedAs (repository_in old).now (repository_in new).now
    pub clock : clock_of (repository_in new).now ≡ clock_of (repository_in old).now
    pub verifier : verifier_in new ≡ verifier_in old
    pub name : name_in new ≡ name_in old
    pub most : most_in new ≡ most_in old

  -- the repository is what it was
  pub record IsSame (old new : FetchRoles T K C V S R) : Type 0 where
    pub documents : documents_of (repository_in new).now ≡ documents_of (repository_in old).now
    pub keeping : keeping_of (repository_in new).now ≡ keeping_of (repository_in old).now

  -- no file is asked for
  pub record Waits (old new : FetchRoles T K C V S R) : Type 0 where
    pub same : IsSame old new
    pub left : left_in new ≡ left_in old

module _ {T K C V S R : Type 0} (serves : T → Parts → Runs Item) (yields : S → Runs Item) where
  -- one more file is asked for
  pub record Begins (old new : FetchRoles T K C V S R) : Type 0 where
    pub same : IsSame old new
    pub none : fetch_in old ≡ None
    pub fetch : Collect S
    pub begun : fetch_in new ≡ Some fetch
    pub asked : Asks serves yields (name_in old) (repository_in old).now fetch
    pub fewer : left_in old ≡ suc (left_in new)

module _ {T K C V S R : Type 0} (keeps : Verifies → K → Act → Result R StepError → K → Type 0) (verifies : V → Verifies) where
  -- a file came, and its document has its place, or none is needed
  pub record Takes (old new : FetchRoles T K C V S R) : Type 0 where
    pub left : left_in new ≡ left_in old
    pub bytes : List ℕ
    pub added : Adds keeps (verifies (verifier_in old)) (name_in old) bytes (repository_in old).now (repository_in new).now
        ⊎ AddsNone (name_in old) (repository_in old).now (repository_in new).now

  -- It ends: the search is settled, or a document can't be had.
  abbrev pub Ends : FetchRoles T K C V S R → FetchRoles T K C V S R → Result Unit FetchRolesError → Type 0
  Ends old new (Ok u) = IsSame old new × IsSettled (name_in old) (documents_of (repository_in new).now)
  Ends old new (Err e) = (IsSame old new × IsUnasked (name_in old) (most_in old) (left_in old) (repository_in old).now e)
      ⊎ ((bytes : List ℕ) × Fails keeps (verifies (verifier_in old)) (name_in old) bytes (repository_in old).now (repository_in new).now e)

  -- it goes on
  abbrev pub GoesOn : (T → Parts → Runs Item) → (S → Runs Item) → FetchRoles T K C V S R → FetchRoles T K C V S R → Type 0
  GoesOn serves yields old new = Begins serves yields old new ⊎ (Waits old new ⊎ Takes old new)

-- what it promises of its answer: where that is well, the search is settled in documents that were added so
abbrev pub Settles : {T K C V S R : Type 0} → (V → Verifies) → FetchRoles T K C V S R → Result Unit FetchRolesError → Type 0
Settles verifies f (Ok u) = (added : List AddedDoc) × (l : LoadedDoc)
    × Grows (verifies (verifier_in f)) (limits_of (repository_in f).now) (enforced_of (repository_in f).now) (name_in f) (documents_of (repository_in f).now) added l × IsSettled (name_in f) l
Settles verifies f (Err e) = ⊤
