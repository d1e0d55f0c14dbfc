-- How a target is read (TUF specification 1.0, section 5.7): in time, by what the search finds, from below the base URL.
use Rattle.std.specs.Prelude.{◌≡◌, ◌≢◌, ◌⊎◌, ℕ, ℤ, Bool, true, false, List, Option, Some, None, Result, Ok, Err, string_bytes}
use Rattle.url.specs.declared.error.ParseError.{ParseError}
use Rattle.url.specs.Parts.{Parts}
use Rattle.futures.specs.Runs.{Runs}
use Rattle.tough_keys.specs.Same.{Verifies}
use Rattle.tough_names.specs.Named.{Named}
use Rattle.tough_net.specs.declared.digest_check.DigestCheck.{DigestCheck}
use Rattle.tough_net.specs.declared.error.TransportError.{TransportError}
use Rattle.tough_net.specs.declared.error.TransportErrorKind.TheVariants as kind
use Rattle.tough_net.specs.declared.max_size.MaxSize.{MaxSize}
use Rattle.tough_net.specs.Checking.{checked}
use Rattle.tough_net.specs.Errors.{error_kind}
use Rattle.tough_net.specs.Items.{Item}
use Rattle.tough_net.specs.Limiting.{limited}
use Rattle.tough_schema.specs.Search.{search}
use Rattle.tough_schema.specs.Target.{TargetDoc}
use Rattle.tough_schema.specs.Whole.{top_doc}
use Rattle.tough_vault.specs.Act.{Act}
use Rattle.tough_checks.specs.declared.checks.StepError.{StepError}
use Rattle.tough_trust.specs.Requests.{digests_in}
use Rattle.tough_trust.specs.Failure.{Failure}
use Rattle.tough_trust.specs.Steps.{Keeping}
use Rattle.tough_client.specs.Timely.{ExpiryDoc, NotesTimely}
use Rattle.tough_client.specs.Timely.{earliest as first_expiry}
use Rattle.tough_update.specs.Stages.{LoadedDoc}
use Rattle.tough_error.specs.declared.error.Error.{Error}
use Rattle.tough_error.specs.declared.error.Error.TheVariants as error
use Rattle.tough_trust.specs.Wide.{failure_in}
use Rattle.tough_save.specs.declared.target.FetchError.{FetchError}
use Rattle.tough_save.specs.declared.target.FetchError.TheVariants as fetching
use Rattle.tough_save.specs.Targets.{HasBegun, IsUnbegun, file_name}
use Rattle.tough_client.specs.declared.repository.Repository.{Repository}
use Rattle.tough_client.specs.Repositories.{documents_of, transport_of, keeping_of, clock_of, targets_base_of, enforced_of}

-- ---- expiry

-- the role whose document expires first, and when
abbrev pub earliest : LoadedDoc → ExpiryDoc
earliest l = first_expiry l.known.root.role.head.expires l.known.timestamp.role.head.expires
    l.known.snapshot.role.head.expires (top_doc l.targets.role).head.expires

module _ {K R C : Type 0} (keeps : Verifies → K → Act → Result R StepError → K → Type 0) (may_give : C → ℤ → Type 0) where
  -- in time, where expiry counts: a moment that the clock may give was noted, and is before the earliest expiry
  abbrev pub InTime : C → Bool → LoadedDoc → Keeping K R → Keeping K R → Type 0
  InTime clock true l k next = (now : ℤ) × may_give clock now × NotesTimely keeps (earliest l) now k (Ok (tt {0})) next
  InTime clock false l k next = next ≡ k

  -- it isn't before that, or wasn't noted, and the error tells why
  abbrev pub NotInTime : C → Bool → LoadedDoc → Keeping K R → Error → Keeping K R → Type 0
  NotInTime clock true l k e next = (now : ℤ) × may_give clock now × (f : Failure) × (failure_in e ≡ Some f) × NotesTimely keeps (earliest l) now k (Err f) next
  NotInTime clock false l k e next = ⊥

-- ---- what is listed

-- what the search finds
abbrev pub target_at : LoadedDoc → Named → Option TargetDoc
target_at l name = search false name l.targets.role

-- the name of the target's file
abbrev pub served_name : LoadedDoc → Named → TargetDoc → List ℕ
served_name l name t = file_name name.resolved t.hashes.sha256.bytes l.known.root.role.consistent_snapshot

-- ---- fetching

-- a fault of a transport, as it is told: want of memory as such
abbrev pub TellsFault : TransportError → Error → Type 0
TellsFault source (error.Transport e) = (e ≡ source) × (error_kind source ≢ kind.Memory)
TellsFault source error.Memory = error_kind source ≡ kind.Memory
TellsFault source _ = ⊥

abbrev pub TellsUnjoined : List ℕ → ParseError → Error → Type 0
TellsUnjoined file source (error.JoinUrl path e) = (string_bytes path ≡ file) × (e ≡ source)
TellsUnjoined file source _ = ⊥

abbrev pub TellsEscape : List ℕ → Error → Type 0
TellsEscape url (error.InvalidTargetName inner) = string_bytes inner ≡ url
TellsEscape url _ = ⊥

-- why the file of this name isn't fetched, as it is told
abbrev pub TellsFetch : List ℕ → FetchError → Error → Type 0
TellsFetch file (fetching.JoinUrl source) e = TellsUnjoined file source e
TellsFetch file (fetching.Escapes url) e = TellsEscape (string_bytes url) e
TellsFetch file (fetching.Transport source) e = TellsFault source e
TellsFetch file fetching.Memory e = e ≡ error.Memory

module _ {T S : Type 0} (refuses : T → Parts → TransportError → Type 0) (serves : T → Parts → Runs Item) (yields : S → Runs Item) (can_poll : S → Type 0) where
  -- a stream of a listed target, from below the base URL: of at most the listed length, and with each listed digest
  pub record IsStreamOf (l : LoadedDoc) (t : T) (base : Parts) (name : Named) (target : TargetDoc) (s : DigestCheck (MaxSize S)) : Type 0 where
    pub begun : HasBegun serves yields t base (served_name l name target) target.length (digests_in target.hashes) s
    pub ready : can_poll (limited (checked s))

  -- its file isn't fetched
  pub record IsUnfetched (l : LoadedDoc) (t : T) (base : Parts) (name : Named) (target : TargetDoc) (e : Error) : Type 0 where
    pub why : FetchError
    pub unbegun : IsUnbegun refuses t base (served_name l name target) (digests_in target.hashes) why
    pub told : TellsFetch (served_name l name target) why e

  -- What reading answers: the stream of what the search finds, or none where it finds nothing; else why not.
  abbrev pub Finds : LoadedDoc → T → Parts → Named → Result (Option (DigestCheck (MaxSize S))) Error → Type 0
  Finds l t base name (Ok None) = target_at l name ≡ None
  Finds l t base name (Ok (Some s)) = (target : TargetDoc) × (target_at l name ≡ Some target) × IsStreamOf l t base name target s
  Finds l t base name (Err e) = (e ≡ error.Memory) ⊎ ((target : TargetDoc) × (target_at l name ≡ Some target) × IsUnfetched l t base name target e)

  module _ {K R C : Type 0} (keeps : Verifies → K → Act → Result R StepError → K → Type 0) (may_give : C → ℤ → Type 0) where
    -- it isn't in time, and the error says so
    abbrev pub IsLate : Repository T K C R → Result (Option (DigestCheck (MaxSize S))) Error → Keeping K R → Type 0
    IsLate r (Ok o) next = ⊥
    IsLate r (Err e) next = NotInTime keeps may_give (clock_of r) (enforced_of r) (documents_of r) (keeping_of r) e next

    -- What reading answers, with the keeper that it leaves: in time, what is found; else that it is not.
    abbrev pub Reads : Repository T K C R → Named → Result (Option (DigestCheck (MaxSize S))) Error → Keeping K R → Type 0
    Reads r name result next = IsLate r result next
        ⊎ (InTime keeps may_give (clock_of r) (enforced_of r) (documents_of r) (keeping_of r) next × Finds (documents_of r) (transport_of r) (targets_base_of r) name result)
