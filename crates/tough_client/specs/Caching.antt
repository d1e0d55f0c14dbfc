-- How a repository is cached: turn by turn, and the calls by which that is done.
use Rattle.std.specs.Prelude.{◌≡◌, ℤ, ◌⊎◌, ℕ, Bool, List, [], ◌∷◌, ◌++◌, Option, Some, None, Result, Ok, Err, Vec, length, ◌≤◌, string_bytes, if◌then◌else◌}
use Rattle.std.specs.declared.alloc.Global.{Global}
use Rattle.std.specs.Path.{path_join}
use Rattle.url.specs.Parts.{Parts}
use Rattle.url.specs.Parser.{parse_url}
use Rattle.url.specs.declared.error.ParseError.{ParseError}
use Rattle.futures.specs.Runs.{Runs}
use Rattle.tough_files.specs.Calls.{Told}
use Rattle.tough_keys.specs.Same.{Verifies}
use Rattle.tough_names.specs.declared.name.NameError.{NameError}
use Rattle.tough_names.specs.Named.{Named, GivesName}
use Rattle.tough_net.specs.declared.collect.Collect.{Collect}
use Rattle.tough_net.specs.declared.error.TransportError.{TransportError}
use Rattle.tough_net.specs.Checking.{checked}
use Rattle.tough_net.specs.Collecting.{Collects, collected, bounds_of, held_by}
use Rattle.tough_net.specs.Errors.{IsMemory}
use Rattle.tough_net.specs.Items.{Item}
use Rattle.tough_net.specs.Limiting.{limited}
use Rattle.tough_net.specs.Urls.{CannotJoin}
use Rattle.tough_vault.specs.Act.{Act}
use Rattle.tough_checks.specs.declared.checks.StepError.{StepError}
use Rattle.tough_trust.specs.Requests.{RequestDoc}
use Rattle.tough_trust.specs.Steps.{Keeping}
use Rattle.tough_update.specs.Stages.{LoadedDoc}
use Rattle.tough_error.specs.declared.error.Error.{Error}
use Rattle.tough_error.specs.declared.error.Error.TheVariants as error
use Rattle.tough_error.specs.Names.{name_error}
use Rattle.tough_load.specs.Fetching.{IsStarted}
use Rattle.tough_save.specs.Savings.{stream_of}
use Rattle.tough_client.specs.declared.cache.Caching.{Caching}
use Rattle.tough_client.specs.declared.cache.Folders.{Folders}
use Rattle.tough_client.specs.declared.cache.Work.{Work}
use Rattle.tough_client.specs.declared.cache.Work.TheVariants as work
use Rattle.tough_client.specs.declared.plan.Served.{Served}
use Rattle.tough_client.specs.declared.plan.Turn.{Turn}
use Rattle.tough_client.specs.declared.plan.Turn.TheVariants as turn
use Rattle.tough_client.specs.declared.repository.Repository.{Repository}
use Rattle.tough_client.specs.declared.save.Prefix.{Prefix}
use Rattle.tough_client.specs.declared.save.Prefix.TheVariants as prefix
use Rattle.tough_client.specs.Copying.{is_consistent, file_again, IsUnlisted, IsDone, IsFailed, HasFailed, IsMade, Stays, WritesFetched, WritesRole}
use Rattle.tough_client.specs.Plans.{AddsTargets, first_root, left_in, metadata_turns, roots_down}
use Rattle.tough_client.specs.Reading.{TellsFault, TellsUnjoined}
use Rattle.tough_client.specs.Repositories.{IsKept, documents_of, keeping_of, limits_of, metadata_base_of, transport_of}
use Rattle.tough_client.specs.Saving.{CanGoOn, Finishes, SavesTarget, Starts}

-- ---- what is under way

module _ {S : Type 0} (tells : Bool) (yields : S → Runs Item) where
  -- a file is fetched to its end, and written
  pub record IsFetched (path : List ℕ) (f : Collect S) (old new : List Told) (result : Result (Unit {0}) Error) : Type 0 where
    pub outcome : Result (Vec ℕ Global) TransportError
    pub came : Collects (bounds_of f) (yields (collected f)) (held_by f) outcome
    pub written : WritesFetched tells path outcome old new result

  -- what is under way comes to its end
  abbrev pub Ends : Work S → List Told → List Told → Result (Unit {0}) Error → Type 0
  Ends (work.Target name s) old new result = Finishes yields tells name s old new result
  Ends (work.File path f) old new result = IsFetched (string_bytes path) f old new result

  -- it has come to where another stands: whatever ends that one ends it
  abbrev pub Follows : Work S → List Told → List Told → Work S → Type 0
  Follows w old mid later = (result : Result (Unit {0}) Error) (new : List Told) → Ends later mid new result → Ends w old new result

-- what is under way may be polled
abbrev pub IsPollable : {S : Type 0} → (S → Type 0) → Work S → Type 0
IsPollable can_poll (work.Target name s) = CanGoOn can_poll s
IsPollable can_poll (work.File path f) = can_poll (collected f) × (length (held_by f) ≤ (bounds_of f).max)

-- what it needs in order to go on
abbrev pub Needs : {S : Type 0} → (S → ℕ → Type 0) → Work S → ℕ → Type 0
Needs needs (work.Target name s) n = needs (limited (checked (stream_of s))) n
Needs needs (work.File path f) n = needs (collected f) n

-- ---- a file of metadata

module _ {T K C R : Type 0} (refuses : T → Parts → TransportError → Type 0) (r : Repository T K C R) where
  -- why a fetch doesn't start: no memory, a name that can't be joined, or a refusal of the transport
  abbrev pub IsUnstarted : RequestDoc → Error → Type 0
  IsUnstarted q e = (e ≡ error.Memory)
      ⊎ (((why : ParseError) × CannotJoin (metadata_base_of r) q.name why × TellsUnjoined q.name why e)
      ⊎ ((url : Parts) × (parse_url (Some (metadata_base_of r)) q.name ≡ Ok url)
      × ((why : TransportError) × (refuses (transport_of r) url why ⊎ IsMemory why) × TellsFault why e)))

  -- how the file is asked for
  abbrev pub IsAsked : Served → RequestDoc → Type 0
  IsAsked s q = file_again (documents_of r) (limits_of r) s ≡ Some q

  -- why the file isn't fetched
  abbrev pub IsUnbegun : Served → Error → Type 0
  IsUnbegun s e = IsUnlisted (documents_of r) (limits_of r) s e ⊎ ((q : RequestDoc) × IsAsked s q × IsUnstarted q e)

module _ {T K C S R : Type 0} (serves : T → Parts → Runs Item) (yields : S → Runs Item) (r : Repository T K C R) (dir : List ℕ) where
  -- a fetch from below the base URL of the metadata has begun, for a path in the folder
  abbrev pub IsBegun : RequestDoc → Work S → Type 0
  IsBegun q (work.Target name s) = ⊥
  IsBegun q (work.File path f) = (string_bytes path ≡ path_join dir q.name) × IsStarted serves yields (transport_of r) (metadata_base_of r) q f

  -- it is fetched, and written at that path
  pub record IsCopied (tells : Bool) (q : RequestDoc) (old new : List Told) (result : Result (Unit {0}) Error) : Type 0 where
    pub fetch : Collect S
    pub started : IsStarted serves yields (transport_of r) (metadata_base_of r) q fetch
    pub fetched : IsFetched tells yields (path_join dir q.name) fetch old new result

module _ {T K C S R : Type 0} (refuses : T → Parts → TransportError → Type 0) (serves : T → Parts → Runs Item) (yields : S → Runs Item) (r : Repository T K C R) (dir : List ℕ) (s : Served) where
  abbrev pub BeginsFile : Result (Option (Work S)) Error → Type 0
  BeginsFile (Ok (Some w)) = (q : RequestDoc) × IsAsked refuses r s q × IsBegun serves yields r dir q w
  BeginsFile (Ok None) = ⊥
  BeginsFile (Err e) = IsUnbegun refuses r s e

  -- the file is fetched again and written as it is served, or it isn't fetched
  abbrev pub CopiesFile : Bool → List Told → List Told → Result (Unit {0}) Error → Type 0
  CopiesFile tells old new result = (Stays tells old new × IsFailed (IsUnbegun refuses r s) result)
      ⊎ ((q : RequestDoc) × IsAsked refuses r s q × IsCopied serves yields r dir tells q old new result)

-- ---- the turns

-- the digest stands before the name of a target under consistent snapshots
abbrev pub prefix_of : LoadedDoc → Prefix
prefix_of l = if is_consistent l then prefix.Digest else prefix.None

module _ {T K C S R : Type 0} (refuses : T → Parts → TransportError → Type 0) (serves : T → Parts → Runs Item) (yields : S → Runs Item) (can_poll : S → Type 0)
    (keeps : Verifies → K → Act → Result R StepError → K → Type 0) (may_give : C → ℤ → Type 0) (tells : Bool) where
  module _ (r : Repository T K C R) (dir : List ℕ) where
    -- the target of this name is saved
    abbrev pub SavesNamed : Named → List Told → List Told → Keeping K R → Result (Unit {0}) Error → Type 0
    SavesNamed name old new next result = SavesTarget refuses serves yields can_poll keeps may_give tells r name dir (prefix_of (documents_of r)) old new next result

    -- nothing is done for a text that is no name
    abbrev pub IsNoName : NameError → List Told → List Told → Keeping K R → Error → Type 0
    IsNoName why old new next e = Stays tells old new × (next ≡ keeping_of r) × (e ≡ name_error why)

    abbrev pub SavesIf : Result Named NameError → List Told → List Told → Keeping K R → Result (Unit {0}) Error → Type 0
    SavesIf (Ok name) old new next result = SavesNamed name old new next result
    SavesIf (Err why) old new next result = IsFailed (IsNoName why old new next) result

    -- the target that the text names is saved
    abbrev pub SavesText : List ℕ → List Told → List Told → Keeping K R → Result (Unit {0}) Error → Type 0
    SavesText text old new next result = (name : Result Named NameError) × GivesName text name × SavesIf name old new next result

    abbrev pub BeginsTarget : Named → List Told → List Told → Keeping K R → Result (Option (Work S)) Error → Type 0
    BeginsTarget name old mid next (Ok (Some (work.Target n s))) = (n ≡ name) × Starts refuses serves yields can_poll keeps may_give tells r name dir (prefix_of (documents_of r)) old mid next (Ok s)
    BeginsTarget name old mid next (Ok (Some (work.File path f))) = ⊥
    BeginsTarget name old mid next (Ok None) = ⊥
    BeginsTarget name old mid next (Err e) = Starts refuses serves yields can_poll keeps may_give tells r name dir (prefix_of (documents_of r)) old mid next (Err e)

    abbrev pub BeginsIf : Result Named NameError → List Told → List Told → Keeping K R → Result (Option (Work S)) Error → Type 0
    BeginsIf (Ok name) old mid next begun = BeginsTarget name old mid next begun
    BeginsIf (Err why) old mid next (Ok o) = ⊥
    BeginsIf (Err why) old mid next (Err e) = IsNoName why old mid next e

    abbrev pub BeginsText : List ℕ → List Told → List Told → Keeping K R → Result (Option (Work S)) Error → Type 0
    BeginsText text old mid next begun = (name : Result Named NameError) × GivesName text name × BeginsIf name old mid next begun

    -- a document is written at once
    abbrev pub BeginsRole : ℕ → List Told → List Told → Result (Option (Work S)) Error → Type 0
    BeginsRole place old mid (Ok (Some w)) = ⊥
    BeginsRole place old mid (Ok None) = (u : Unit {0}) × WritesRole tells (documents_of r) dir place old mid (Ok u)
    BeginsRole place old mid (Err e) = WritesRole tells (documents_of r) dir place old mid (Err e)

  -- What is done at a turn.
  abbrev pub Does : Repository T K C R → Folders → Turn → List Told → List Told → Keeping K R → Result (Unit {0}) Error → Type 0
  Does r dirs (turn.Named text) old new next result = SavesText r dirs.targets.now (string_bytes text) old new next result
  Does r dirs (turn.Target name) old new next result = SavesNamed r dirs.targets.now name old new next result
  Does r dirs (turn.File s) old new next result = CopiesFile refuses serves yields r dirs.metadata.now s tells old new result × (next ≡ keeping_of r)
  Does r dirs (turn.Role place) old new next result = WritesRole tells (documents_of r) dirs.metadata.now place old new result × (next ≡ keeping_of r)

  -- A turn has started: it is done, or waits for what is under way now.
  abbrev pub Begins : Repository T K C R → Folders → Turn → List Told → List Told → Keeping K R → Result (Option (Work S)) Error → Type 0
  Begins r dirs (turn.Named text) old mid next begun = BeginsText r dirs.targets.now (string_bytes text) old mid next begun
  Begins r dirs (turn.Target name) old mid next begun = BeginsTarget r dirs.targets.now name old mid next begun
  Begins r dirs (turn.File s) old mid next begun = BeginsFile refuses serves yields r dirs.metadata.now s begun × (mid ≡ old) × (next ≡ keeping_of r)
  Begins r dirs (turn.Role place) old mid next begun = BeginsRole r dirs.metadata.now place old mid begun × (next ≡ keeping_of r)

  -- Turn by turn, up to the first error. Between turns only the keeper of the repository, its clock and its receipts change.
  abbrev pub Caches : List Turn → Repository T K C R → Folders → List Told → List Told → Keeping K R → Result (Unit {0}) Error → Type 0
  Caches [] r dirs old new next result = Stays tells old new × (next ≡ keeping_of r) × IsDone result
  Caches (t ∷ ts) r dirs old new next result = (Does r dirs t old new next result × HasFailed result)
      ⊎ ((u : Unit {0}) × (mid : List Told) × (later : Repository T K C R) × Does r dirs t old mid (keeping_of later) (Ok u) × IsKept r later × Caches ts later dirs mid new next result)

  -- the same from where a cache stands, with what is under way
  abbrev pub GoesOnCaching : Option (Work S) → List Turn → Repository T K C R → Folders → List Told → List Told → Keeping K R → Result (Unit {0}) Error → Type 0
  GoesOnCaching None ts r dirs old new next result = Caches ts r dirs old new next result
  GoesOnCaching (Some w) ts r dirs old new next result = (Ends tells yields w old new result × HasFailed result × (next ≡ keeping_of r))
      ⊎ ((u : Unit {0}) × (mid : List Told) × Ends tells yields w old mid (Ok u) × Caches ts r dirs mid new next result)

  -- a cache has come to where another stands: whatever ends that one ends it
  abbrev pub Continues : Caching S → Repository T K C R → Folders → List Told → List Told → Repository T K C R → Caching S → Type 0
  Continues c r dirs old mid later c' = (result : Result (Unit {0}) Error) (new : List Told) (next : Keeping K R)
      → GoesOnCaching c'.work (left_in c'.plan) later dirs mid new next result → GoesOnCaching c.work (left_in c.plan) r dirs old new next result

-- ---- the whole

-- all that is cached of the metadata
abbrev pub all_metadata : Bool → LoadedDoc → List Turn
all_metadata chain l = metadata_turns l ++ roots_down (first_root chain l)

-- all that is cached of a repository: the targets of the subset, or all that are listed, and then the metadata
abbrev pub PlansAll : LoadedDoc → Option (List (List ℕ)) → Bool → List Turn → Type 0
PlansAll l subset chain turns = (targets : List Turn) × AddsTargets l.targets.role subset [] targets × (turns ≡ targets ++ all_metadata chain l)

module _ (tells : Bool) where
  -- both folders are made, that of the metadata first
  abbrev pub AreMade : Folders → List Told → List Told → Result (Unit {0}) Error → Type 0
  AreMade dirs old new result = (IsMade tells dirs.metadata.now old new result × HasFailed result)
      ⊎ ((u : Unit {0}) × (mid : List Told) × IsMade tells dirs.metadata.now old mid (Ok u) × IsMade tells dirs.targets.now mid new result)

-- it can't begin: no folder, or no memory for the plan
abbrev pub CannotBegin : (Result (Unit {0}) Error → Type 0) → Error → Type 0
CannotBegin makes e = makes (Err e) ⊎ ((u : Unit {0}) × makes (Ok u) × (e ≡ error.Memory))

-- how it is begun, by calls that make folders: nothing is under way yet, and all is left
abbrev pub HasBegun : {S : Type 0} → (Result (Unit {0}) Error → Type 0) → (List Turn → Type 0) → Result (Caching S) Error → Type 0
HasBegun makes plans (Ok c) = (u : Unit {0}) × makes (Ok u) × (c.work ≡ None) × plans (left_in c.plan)
HasBegun makes plans (Err e) = CannotBegin makes e

module _ {S : Type 0} (tells : Bool) where
  abbrev pub BeginsMetadata : LoadedDoc → List ℕ → Bool → List Told → List Told → Result (Caching S) Error → Type 0
  BeginsMetadata l dir chain old new begun = HasBegun (IsMade tells dir old new) (λ turns. turns ≡ all_metadata chain l) begun

  abbrev pub BeginsAll : LoadedDoc → Folders → Option (List (List ℕ)) → Bool → List Told → List Told → Result (Caching S) Error → Type 0
  BeginsAll l dirs subset chain old new begun = HasBegun (AreMade tells dirs old new) (PlansAll l subset chain) begun

-- which folders a cache makes, and what it plans: of the metadata alone, or of the targets of a subset too, or of all that are listed
abbrev pub MakesWanted : Bool → Folders → Option (Option (List (List ℕ))) → List Told → List Told → Result (Unit {0}) Error → Type 0
MakesWanted tells dirs None old new result = IsMade tells dirs.metadata.now old new result
MakesWanted tells dirs (Some subset) old new result = AreMade tells dirs old new result

abbrev pub PlansWanted : LoadedDoc → Option (Option (List (List ℕ))) → Bool → List Turn → Type 0
PlansWanted l None chain turns = turns ≡ all_metadata chain l
PlansWanted l (Some subset) chain turns = PlansAll l subset chain turns

abbrev pub BeginsWanted : {S : Type 0} → Bool → LoadedDoc → Folders → Option (Option (List (List ℕ))) → Bool → List Told → List Told → Result (Caching S) Error → Type 0
BeginsWanted tells l dirs wanted chain old new begun = HasBegun (MakesWanted tells dirs wanted old new) (PlansWanted l wanted chain) begun

module _ {T K C S R : Type 0} (refuses : T → Parts → TransportError → Type 0) (serves : T → Parts → Runs Item) (yields : S → Runs Item) (can_poll : S → Type 0)
    (keeps : Verifies → K → Act → Result R StepError → K → Type 0) (may_give : C → ℤ → Type 0) (tells : Bool) where
  module _ (makes : List Told → List Told → Result (Unit {0}) Error → Type 0) (plans : List Turn → Type 0) where
    -- Folders are made, and then comes what is planned, turn by turn.
    abbrev pub CachesPlan : Repository T K C R → Folders → List Told → List Told → Keeping K R → Result (Unit {0}) Error → Type 0
    CachesPlan r dirs old new next result = (IsFailed (CannotBegin (makes old new)) result × (next ≡ keeping_of r))
        ⊎ ((u : Unit {0}) × (mid : List Told) × (turns : List Turn) × makes old mid (Ok u) × plans turns
        × Caches refuses serves yields can_poll keeps may_give tells turns r dirs mid new next result)

    -- the same from where it stands: at its start, or once it has begun
    abbrev pub GoesOnPlan : Option (Caching S) → Repository T K C R → Folders → List Told → List Told → Keeping K R → Result (Unit {0}) Error → Type 0
    GoesOnPlan None r dirs old new next result = CachesPlan r dirs old new next result
    GoesOnPlan (Some c) r dirs old new next result = GoesOnCaching refuses serves yields can_poll keeps may_give tells c.work (left_in c.plan) r dirs old new next result

  -- The calls of a cache, in their order, and its result.
  abbrev pub GoesOnWanted : Option (Caching S) → Repository T K C R → Folders → Option (Option (List (List ℕ))) → Bool → List Told → List Told → Keeping K R → Result (Unit {0}) Error → Type 0
  GoesOnWanted o r dirs wanted chain old new next result =
      GoesOnPlan (MakesWanted tells dirs wanted) (PlansWanted (documents_of r) wanted chain) o r dirs old new next result
