-- The files of metadata that are cached: which are fetched again, which are written as they were received, and by which calls.
use Rattle.std.specs.Prelude.{◌≡◌, ◌⊎◌, ℕ, Bool, true, List, ◌++◌, Option, Some, None, option_map, Result, Ok, Err, Vec, codes, slice_get, string_bytes, if◌then◌else◌, ⊤}
use Rattle.std.specs.declared.alloc.Global.{Global}
use Rattle.std.specs.Path.{path_join}
use Rattle.tough_files.specs.declared.files.FilesError.{FilesError}
use Rattle.tough_files.specs.declared.files.FilesError.TheVariants as files
use Rattle.tough_files.specs.Calls.{Told, told_of, done_or, make_folders_to}
use Rattle.tough_net.specs.Digests.{no_digests}
use Rattle.tough_net.specs.declared.error.TransportError.{TransportError}
use Rattle.tough_roles.specs.declared.role_type.RoleType.TheVariants as role
use Rattle.tough_roles.specs.Names.{versioned, file_name}
use Rattle.tough_roles.specs.Timestamp.{MetafileDoc}
use Rattle.tough_schema.specs.Targets.{delegated_file}
use Rattle.tough_schema.specs.Whole.{top_doc}
use Rattle.tough_roles.specs.Timestamp.{metafile_in}
use Rattle.tough_checks.specs.Files.{snapshot_file, targets_file}
use Rattle.tough_net.specs.declared.limits.Limits.{Limits}
use Rattle.tough_trust.specs.Requests.{RequestDoc, root_request, timestamp_request, snapshot_request}
use Rattle.tough_update.specs.Stages.{LoadedDoc, ReceivedDoc}
use Rattle.tough_error.specs.declared.error.Error.{Error}
use Rattle.tough_error.specs.declared.error.Error.TheVariants as error
use Rattle.tough_save.specs.Wholes.{Writes}
use Rattle.tough_client.specs.declared.plan.Served.{Served}
use Rattle.tough_client.specs.declared.plan.Served.TheVariants as served
use Rattle.tough_client.specs.Reading.{TellsFault}

-- ---- which files

abbrev pub is_consistent : LoadedDoc → Bool
is_consistent l = l.known.root.role.consistent_snapshot

-- the same request, without digests
abbrev pub unchecked : RequestDoc → RequestDoc
unchecked r = record { name = r.name; max_size = r.max_size; specifier = r.specifier; digests = no_digests }

-- the snapshot, as the load asked for it, without digests
abbrev pub snapshot_again : LoadedDoc → Limits → MetafileDoc → RequestDoc
snapshot_again l limits m = unchecked (snapshot_request limits (is_consistent l) m)

-- the targets, of at most the length that is taken where none is stated
abbrev pub targets_again : LoadedDoc → Limits → RequestDoc
targets_again l limits = record {
  name = file_name (is_consistent l) (top_doc l.targets.role).head.version targets_file;
  max_size = limits.max_targets_size;
  specifier = codes "max_targets_size argument";
  digests = no_digests;
}

-- how a file is asked for again; the snapshot only where the timestamp lists it
abbrev pub file_again : LoadedDoc → Limits → Served → Option RequestDoc
file_again l limits served.Snapshot = option_map (snapshot_again l limits) (metafile_in l.known.timestamp.role.meta snapshot_file)
file_again l limits served.Targets = Some (targets_again l limits)
file_again l limits served.Timestamp = Some (timestamp_request limits)
file_again l limits (served.Root n) = Some (root_request limits n)

-- the error says that the timestamp doesn't list the snapshot
abbrev pub TellsUnlisted : Error → Type 0
TellsUnlisted (error.MetaMissing file of) = (file.now ≡ snapshot_file) × (of ≡ role.Timestamp)
TellsUnlisted _ = ⊥

-- why a file isn't asked for: no memory, or it isn't listed
abbrev pub IsUnlisted : LoadedDoc → Limits → Served → Error → Type 0
IsUnlisted l limits s e = (e ≡ error.Memory) ⊎ ((file_again l limits s ≡ None) × TellsUnlisted e)

-- the name of the file of a delegated role's document; none under consistent snapshots where the snapshot doesn't list it
abbrev pub role_file : LoadedDoc → List ℕ → Option (List ℕ)
role_file l name = if is_consistent l
    then option_map (λ m. versioned m.version (delegated_file name)) (metafile_in l.known.snapshot.role.meta (name ++ codes ".json"))
    else Some (delegated_file name)

-- ---- how they are written

abbrev pub IsDone : Result (Unit {0}) Error → Type 0
IsDone (Ok u) = ⊤
IsDone (Err e) = ⊥

-- the answer is an error of which this holds
abbrev pub IsFailed : (Error → Type 0) → Result (Unit {0}) Error → Type 0
IsFailed tells (Ok u) = ⊥
IsFailed tells (Err e) = tells e

abbrev pub HasFailed : Result (Unit {0}) Error → Type 0
HasFailed result = IsFailed (λ e. ⊤) result

-- a folder that couldn't be made, as it is told
abbrev pub TellsUnmade : List ℕ → FilesError → Error → Type 0
TellsUnmade path files.Memory e = e ≡ error.Memory
TellsUnmade path why (error.CacheDirectoryCreate p source) = (string_bytes p ≡ path) × (source ≡ why)
TellsUnmade path why e = e ≡ error.Memory

-- a file that couldn't be written, as it is told
abbrev pub TellsUnwritten : List ℕ → FilesError → Error → Type 0
TellsUnwritten path files.Memory e = e ≡ error.Memory
TellsUnwritten path why (error.CacheFileWrite p source) = (string_bytes p ≡ path) × (source ≡ why)
TellsUnwritten path why e = ⊥

abbrev pub IsHandedOn : (FilesError → Error → Type 0) → Result (Unit {0}) FilesError → Result (Unit {0}) Error → Type 0
IsHandedOn tells (Ok u) (Ok v) = ⊤
IsHandedOn tells (Err why) (Err e) = tells why e
IsHandedOn tells _ _ = ⊥

module _ (tells : Bool) where
  -- no call is made
  abbrev pub Stays : List Told → List Told → Type 0
  Stays old new = tells ≡ true → new ≡ old

  -- a folder is made
  pub record IsMade (path : List ℕ) (old new : List Told) (result : Result (Unit {0}) Error) : Type 0 where
    pub outcome : Result (Unit {0}) FilesError
    pub made : tells ≡ true → new ≡ old ++ told_of (make_folders_to path) (done_or outcome)
    pub told : IsHandedOn (TellsUnmade path) outcome result

  -- a file is made, and the bytes are appended to it
  pub record IsWritten (path bytes : List ℕ) (old new : List Told) (result : Result (Unit {0}) Error) : Type 0 where
    pub outcome : Result (Unit {0}) FilesError
    pub wrote : tells ≡ true → Writes path bytes outcome old new
    pub told : IsHandedOn (TellsUnwritten path) outcome result

  -- what was fetched is written as it came
  abbrev pub WritesFetched : List ℕ → Result (Vec ℕ Global) TransportError → List Told → List Told → Result (Unit {0}) Error → Type 0
  WritesFetched path (Ok v) old new result = IsWritten path v.items old new result
  WritesFetched path (Err why) old new result = Stays old new × IsFailed (TellsFault why) result

  -- a document is written as it was received, if its file has a name
  abbrev pub WritesNamed : List ℕ → List ℕ → Option (List ℕ) → List Told → List Told → Result (Unit {0}) Error → Type 0
  WritesNamed dir bytes (Some name) old new result = IsWritten (path_join dir name) bytes old new result
  WritesNamed dir bytes None old new result = Stays old new × IsDone result

  -- there was no memory for it
  abbrev pub IsUnwritten : List Told → List Told → Result (Unit {0}) Error → Type 0
  IsUnwritten old new result = Stays old new × IsFailed (λ e. e ≡ error.Memory) result

  abbrev pub WritesDocument : LoadedDoc → List ℕ → ReceivedDoc → List Told → List Told → Result (Unit {0}) Error → Type 0
  WritesDocument l dir d old new result = IsUnwritten old new result ⊎ WritesNamed dir d.1 (role_file l d.0) old new result

  -- the document that was received, if there is one
  abbrev pub WritesReceived : LoadedDoc → List ℕ → Option ReceivedDoc → List Told → List Told → Result (Unit {0}) Error → Type 0
  WritesReceived l dir (Some d) old new result = WritesDocument l dir d old new result
  WritesReceived l dir None old new result = Stays old new × IsDone result

  -- the document at this place of those that were received
  abbrev pub WritesRole : LoadedDoc → List ℕ → ℕ → List Told → List Told → Result (Unit {0}) Error → Type 0
  WritesRole l dir place old new result = WritesReceived l dir (slice_get l.received place) old new result
