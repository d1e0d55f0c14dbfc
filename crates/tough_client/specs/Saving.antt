-- How a target is saved (TUF specification 1.0, section 5.7).
use Rattle.std.specs.Prelude.{◌≡◌, ℤ, ◌⊎◌, ℕ, Bool, true, List, Option, Some, None, Result, Ok, Err, String, string_bytes, ⊤}
use Rattle.std.specs.declared.alloc.Global.{Global}
use Rattle.url.specs.Parts.{Parts}
use Rattle.futures.specs.Runs.{Runs}
use Rattle.tough_files.specs.declared.files.FilesError.{FilesError}
use Rattle.tough_files.specs.Calls.{Told}
use Rattle.tough_keys.specs.Same.{Verifies}
use Rattle.tough_names.specs.Named.{Named}
use Rattle.tough_net.specs.declared.digest_check.DigestCheck.{DigestCheck}
use Rattle.tough_net.specs.declared.error.TransportError.{TransportError}
use Rattle.tough_net.specs.declared.max_size.MaxSize.{MaxSize}
use Rattle.tough_net.specs.Checking.{Checked, checked, failure_of}
use Rattle.tough_net.specs.Items.{Item}
use Rattle.tough_net.specs.Limiting.{Limits, limit_of, limited}
use Rattle.tough_schema.specs.Target.{TargetDoc}
use Rattle.tough_vault.specs.Act.{Act}
use Rattle.tough_checks.specs.declared.checks.StepError.{StepError}
use Rattle.tough_trust.specs.Steps.{Keeping}
use Rattle.tough_update.specs.Stages.{LoadedDoc}
use Rattle.tough_roles.specs.declared.error.Error as schema
use Rattle.tough_roles.specs.declared.error.Error.TheVariants as schemas
use Rattle.tough_error.specs.declared.error.Error.{Error}
use Rattle.tough_error.specs.declared.error.Error.TheVariants as error
use Rattle.tough_save.specs.declared.error.Step.{Step}
use Rattle.tough_save.specs.declared.error.Step.TheVariants as step
use Rattle.tough_save.specs.declared.error.SaveError.{SaveError}
use Rattle.tough_save.specs.declared.error.SaveError.TheVariants as saving
use Rattle.tough_save.specs.declared.place.Place.{Place}
use Rattle.tough_save.specs.declared.saving.Saving.{Saving}
use Rattle.tough_save.specs.Folders.{Opens, MakesTemp}
use Rattle.tough_save.specs.Places.{IsPlace, IsMisplaced, parent_of, path_of}
use Rattle.tough_save.specs.Savings.{Saves, Tells, stream_of, temp_of, target_of}
use Rattle.tough_save.specs.Targets.{file_name}
use Rattle.tough_client.specs.declared.repository.Repository.{Repository}
use Rattle.tough_client.specs.declared.save.Prefix.{Prefix}
use Rattle.tough_client.specs.declared.save.Prefix.TheVariants as prefix
use Rattle.tough_client.specs.Reading.{TellsFault, Reads, target_at}
use Rattle.tough_client.specs.Repositories.{documents_of, keeping_of}

-- what a call that the files refused at a step is told as
abbrev pub refusal : Step → String Global → FilesError → Error
refusal step.FindFolder path source = error.SaveTargetOutdirCanonicalize path source
refusal step.MakeFolders path source = error.DirCreate path source
refusal step.ResolveFolder path source = error.AbsolutePath path source
refusal step.CreateTemp path source = error.NamedTempFileCreate path source
refusal step.Write path source = error.FileWrite path source
refusal step.Rename path source = error.NamedTempFilePersist path source

abbrev pub TellsNoParent : String Global → Named → Error → Type 0
TellsNoParent path name (error.SaveTargetNoParent p n) = (p ≡ path) × (n ≡ name)
TellsNoParent path name error.Memory = ⊤
TellsNoParent path name _ = ⊥

abbrev pub TellsOutside : String Global → String Global → Named → Error → Type 0
TellsOutside path dir name (error.SaveTargetUnsafePath n d p) = (n ≡ name) × (d ≡ dir) × (p ≡ path)
TellsOutside path dir name error.Memory = ⊤
TellsOutside path dir name _ = ⊥

-- why a target of this name isn't saved, as it is told
abbrev pub TellsSave : Named → SaveError → Error → Type 0
TellsSave name (saving.Refused at path source) e = e ≡ refusal at path source
TellsSave name (saving.NoFolder path) e = e ≡ error.SaveTargetOutdir path
TellsSave name (saving.NoParent path) e = TellsNoParent path name e
TellsSave name (saving.Outside path dir) e = TellsOutside path dir name e
TellsSave name (saving.Transport source) e = TellsFault source e
TellsSave name saving.Memory e = e ≡ error.Memory

-- ---- what is saved where

-- the search finds no target of this name
abbrev pub TellsNotFound : Named → schema.Error → Type 0
TellsNotFound name (schemas.TargetNotFound n) = n ≡ name
TellsNotFound name _ = ⊥

abbrev pub TellsUnlisted : Named → Error → Type 0
TellsUnlisted name (error.CacheTargetMissing n source) = (n ≡ name) × TellsNotFound name source
TellsUnlisted name error.Memory = ⊤
TellsUnlisted name _ = ⊥

abbrev pub TellsMissing : Named → Error → Type 0
TellsMissing name (error.SaveTargetNotFound n) = n ≡ name
TellsMissing name error.Memory = ⊤
TellsMissing name _ = ⊥

-- the digest that is to stand before the name isn't listed
pub record IsUnlisted (l : LoadedDoc) (name : Named) (p : Prefix) (e : Error) : Type 0 where
  pub asked : p ≡ prefix.Digest
  pub unlisted : target_at l name ≡ None
  pub told : TellsUnlisted name e

-- the name of the file that a target is saved as: what its own name resolves to; where the digest is asked for, after that of the target
-- that is listed
abbrev pub IsSavedAs : LoadedDoc → Named → Prefix → List ℕ → Type 0
IsSavedAs l name prefix.None file = file ≡ name.resolved
IsSavedAs l name prefix.Digest file = (target : TargetDoc) × (target_at l name ≡ Some target) × (file ≡ file_name name.resolved target.hashes.sha256.bytes true)

-- the target has no place in the folder
pub record IsUnplaced (l : LoadedDoc) (dir : List ℕ) (name : Named) (p : Prefix) (e : Error) : Type 0 where
  pub file : List ℕ
  pub named : IsSavedAs l name p file
  pub why : SaveError
  pub misplaced : IsMisplaced dir file why
  pub told : TellsSave name why e

-- the place of a target in a folder, or why it has none
abbrev pub Places : LoadedDoc → List ℕ → Named → Prefix → Result Place Error → Type 0
Places l dir name p (Ok place) = (file : List ℕ) × IsSavedAs l name p file × IsPlace dir file place
Places l dir name p (Err e) = (e ≡ error.Memory) ⊎ (IsUnlisted l name p e ⊎ IsUnplaced l dir name p e)

-- ---- the calls

-- how a saving ended, as it is told
abbrev pub IsTold : Named → Result (Unit {0}) SaveError → Result (Unit {0}) Error → Type 0
IsTold name (Ok u) (Ok v) = ⊤
IsTold name (Err why) (Err e) = TellsSave name why e
IsTold name _ _ = ⊥

module _ {E : Type 0} (gives : SaveError → E → Type 0) where
  -- the error of a saving is handed on
  abbrev pub IsHandedOn : Result (Unit {0}) SaveError → Result (Unit {0}) E → Type 0
  IsHandedOn (Ok u) (Ok v) = ⊤
  IsHandedOn (Err why) (Err e) = gives why e
  IsHandedOn _ _ = ⊥

  -- how a saving came out, which is handed on
  pub record ComesOut (tells : Bool) (source : Runs Item) (temp path : List ℕ) (old new : List Told) (result : Result (Unit {0}) E) : Type 0 where
    pub outcome : Result (Unit {0}) SaveError
    pub handed_on : IsHandedOn outcome result
    pub came : Tells source outcome
    pub saved : tells ≡ true → Saves source temp path outcome old new

module _ {S : Type 0} (yields : S → Runs Item) (tells : Bool) where
  -- what the stream of a target yields
  abbrev pub pieces_of : DigestCheck (MaxSize S) → Runs Item
  pieces_of s = Checked s (Limits (limit_of (checked s)) (yields (limited (checked s))))

  -- the pieces are appended, and the file gets its name, or the temporary file is removed
  pub record Finishes (name : Named) (s : Saving (DigestCheck (MaxSize S))) (old new : List Told) (result : Result (Unit {0}) Error) : Type 0 where
    pub outcome : Result (Unit {0}) SaveError
    pub came : Tells (pieces_of (stream_of s)) outcome
    pub saved : tells ≡ true → Saves (pieces_of (stream_of s)) (temp_of s) (target_of s) outcome old new
    pub told : IsTold name outcome result

  -- the saving has come to where another stands: whatever finishes that one finishes it
  abbrev pub Continues : Named → Saving (DigestCheck (MaxSize S)) → List Told → List Told → Saving (DigestCheck (MaxSize S)) → Type 0
  Continues name s old mid later = (result : Result (Unit {0}) Error) (new : List Told) → Finishes name later mid new result → Finishes name s old new result

-- its stream may be polled, unless its digest turned out wrong
abbrev pub CanGoOn : {S : Type 0} → (S → Type 0) → Saving (DigestCheck (MaxSize S)) → Type 0
CanGoOn can_poll s = failure_of (stream_of s) ≡ None → can_poll (limited (checked (stream_of s)))

module _ {T K C S R : Type 0} (refuses : T → Parts → TransportError → Type 0) (serves : T → Parts → Runs Item) (yields : S → Runs Item) (can_poll : S → Type 0)
    (keeps : Verifies → K → Act → Result R StepError → K → Type 0) (may_give : C → ℤ → Type 0) where
  -- the stream of a target, which must be listed
  abbrev pub Opened : Repository T K C R → Named → Result (DigestCheck (MaxSize S)) Error → Keeping K R → Type 0
  Opened r name (Ok s) next = Reads refuses serves yields can_poll keeps may_give r name (Ok (Some s)) next
  Opened r name (Err e) next = Reads refuses serves yields can_poll keeps may_give r name (Err e) next
      ⊎ (Reads refuses serves yields can_poll keeps may_give r name (Ok None) next × TellsMissing name e)

module _ {T K C S R : Type 0} (refuses : T → Parts → TransportError → Type 0) (serves : T → Parts → Runs Item) (yields : S → Runs Item) (can_poll : S → Type 0)
    (keeps : Verifies → K → Act → Result R StepError → K → Type 0) (may_give : C → ℤ → Type 0) (tells : Bool) where
  module _ (r : Repository T K C R) (name : Named) (dir : List ℕ) (place : Place) (old new : List Told) (next : Keeping K R) where
    -- the target is being read, and there is a temporary file for it
    pub record IsReady (s : Saving (DigestCheck (MaxSize S))) : Type 0 where
      pub stream : Opened refuses serves yields can_poll keeps may_give r name (Ok (stream_of s)) next
      pub temp : String Global
      pub made : tells ≡ true → MakesTemp dir (parent_of place) (path_of place) (Ok temp) old new
      pub temp_is : temp_of s ≡ string_bytes temp
      pub target_is : target_of s ≡ path_of place

    -- there is no temporary file for it
    pub record IsUnmade (e : Error) : Type 0 where
      pub stream : DigestCheck (MaxSize S)
      pub opened : Opened refuses serves yields can_poll keeps may_give r name (Ok stream) next
      pub why : SaveError
      pub made : tells ≡ true → MakesTemp dir (parent_of place) (path_of place) (Err why) old new
      pub told : TellsSave name why e

    -- the target is read, and then a temporary file is made
    abbrev pub Readies : Result (Saving (DigestCheck (MaxSize S))) Error → Type 0
    Readies (Ok s) = IsReady s
    Readies (Err e) = (Opened refuses serves yields can_poll keeps may_give r name (Err e) next × (tells ≡ true → new ≡ old)) ⊎ IsUnmade e

  module _ (r : Repository T K C R) (name : Named) (outdir : List ℕ) (p : Prefix) (old new : List Told) (next : Keeping K R) where
    -- the folder couldn't be opened
    pub record IsUnopened (e : Error) : Type 0 where
      pub why : SaveError
      pub opened : tells ≡ true → Opens outdir (Err why) old new
      pub told : TellsSave name why e
      pub kept : next ≡ keeping_of r

    -- the target has no place in it
    pub record IsNowhere (e : Error) : Type 0 where
      pub dir : String Global
      pub opened : tells ≡ true → Opens outdir (Ok dir) old new
      pub nowhere : Places (documents_of r) (string_bytes dir) name p (Err e)
      pub kept : next ≡ keeping_of r

    -- the folder was opened, the target has a place in it, and there it goes on
    pub record GoesOn (result : Result (Saving (DigestCheck (MaxSize S))) Error) : Type 0 where
      pub dir : String Global
      pub mid : List Told
      pub opened : tells ≡ true → Opens outdir (Ok dir) old mid
      pub place : Place
      pub placed : Places (documents_of r) (string_bytes dir) name p (Ok place)
      pub readied : Readies r name (string_bytes dir) place mid new next result

    -- all that comes before the first piece, in this order
    abbrev pub Starts : Result (Saving (DigestCheck (MaxSize S))) Error → Type 0
    Starts (Ok s) = GoesOn (Ok s)
    Starts (Err e) = IsUnopened e ⊎ (IsNowhere e ⊎ GoesOn (Err e))

  -- it started, and finished
  pub record IsWhole (r : Repository T K C R) (name : Named) (outdir : List ℕ) (p : Prefix) (old new : List Told) (next : Keeping K R) (result : Result (Unit {0}) Error) : Type 0 where
    pub saving : Saving (DigestCheck (MaxSize S))
    pub mid : List Told
    pub started : Starts r name outdir p old mid next (Ok saving)
    pub finished : Finishes yields tells name saving mid new result

  -- The calls by which a target is saved, in their order, and what comes of them.
  abbrev pub SavesTarget : Repository T K C R → Named → List ℕ → Prefix → List Told → List Told → Keeping K R → Result (Unit {0}) Error → Type 0
  SavesTarget r name outdir p old new next (Ok u) = IsWhole r name outdir p old new next (Ok u)
  SavesTarget r name outdir p old new next (Err e) = Starts r name outdir p old new next (Err e) ⊎ IsWhole r name outdir p old new next (Err e)

  -- the same from where a saving stands: at its start, or with its stream
  abbrev pub GoesOnSaving : Option (Saving (DigestCheck (MaxSize S))) → Repository T K C R → Named → List ℕ → Prefix → List Told → List Told → Keeping K R → Result (Unit {0}) Error → Type 0
  GoesOnSaving None r name outdir p old new next result = SavesTarget r name outdir p old new next result
  GoesOnSaving (Some s) r name outdir p old new next result = Finishes yields tells name s old new result × (next ≡ keeping_of r)
