-- The calls by which a stream becomes a file (TUF specification 1.0, section 5.7: a client writes a target file that it has verified).
use Rattle.std.specs.Prelude.{◌≡◌, ◌⊎◌, ℕ, List, ◌++◌, map, Some, None, Result, Ok, Err, string_bytes, ⊤}
use Rattle.futures.specs.Runs.{Runs}
use Rattle.tough_files.specs.declared.files.FilesError.{FilesError}
use Rattle.tough_files.specs.Calls.{Asked, Told, told_of, done, refused, done_or, append_to, rename_to, remove_at}
use Rattle.tough_net.specs.declared.error.TransportError.{TransportError}
use Rattle.tough_net.specs.Items.{Item}
use Rattle.tough_save.specs.declared.error.SaveError.{SaveError}
use Rattle.tough_save.specs.declared.error.SaveError.TheVariants.{Transport}
use Rattle.tough_save.specs.declared.error.Step.{Step}
use Rattle.tough_save.specs.declared.error.Step.TheVariants as step
use Rattle.tough_save.specs.declared.saving.Saving.{Saving}
use Rattle.tough_save.specs.Errors.{IsRefusal}

-- these pieces are appended to the file
abbrev pub appended : List ℕ → List (List ℕ) → List Told
appended temp pieces = map (λ piece. record { asked = append_to temp piece; answered = done }) pieces

-- the temporary file is removed, whatever that answers
abbrev pub Discards : List ℕ → List Told → List Told → Type 0
Discards temp old new = (r : Result (Unit {0}) FilesError) × (new ≡ old ++ told_of (remove_at temp) (done_or r))

-- a call that is to be done; where it is refused at this step on this path, the temporary file is removed
abbrev pub Tries : Asked → Step → List ℕ → List ℕ → Result (Unit {0}) SaveError → List Told → List Told → Type 0
Tries asked at path temp (Ok u) old new = new ≡ old ++ told_of asked done
Tries asked at path temp (Err e) old new = (why : FilesError) × IsRefusal at path why e × Discards temp (old ++ told_of asked (refused why)) new

module _ (source : Runs Item) (temp path : List ℕ) (r : Result (Unit {0}) SaveError) (old new : List Told) where
  -- all pieces of the stream are appended, and only then is the file renamed
  pub record Renamed : Type 0 where
    pub pieces : List (List ℕ)
    pub came : source (map Ok pieces) None
    pub told : Tries (rename_to temp path) step.Rename path temp r (old ++ appended temp pieces) new

module _ (source : Runs Item) (temp : List ℕ) (error : SaveError) (old new : List Told) where
  -- a piece couldn't be appended
  pub record Unwritten : Type 0 where
    pub pieces : List (List ℕ)
    pub piece : List ℕ
    pub came : source (map Ok pieces) (Some (Ok piece))
    pub told : Tries (append_to temp piece) step.Write temp temp (Err error) (old ++ appended temp pieces) new

  -- the stream gave an error
  pub record Broken : Type 0 where
    pub pieces : List (List ℕ)
    pub fault : TransportError
    pub came : source (map Ok pieces) (Some (Err fault))
    pub tells : error ≡ Transport fault
    pub told : Discards temp (old ++ appended temp pieces) new

-- what files are asked from the first piece of the stream on, and what comes of it: after an error the temporary file is removed
abbrev pub Saves : Runs Item → List ℕ → List ℕ → Result (Unit {0}) SaveError → List Told → List Told → Type 0
Saves source temp path (Ok u) old new = Renamed source temp path (Ok u) old new
Saves source temp path (Err e) old new =
    Renamed source temp path (Err e) old new ⊎ (Unwritten source temp e old new ⊎ Broken source temp e old new)

-- what an outcome says of the stream: it ended without an error, or it gave the error that is told
abbrev pub Tells : Runs Item → Result (Unit {0}) SaveError → Type 0
Tells source (Ok u) = (pieces : List (List ℕ)) × source (map Ok pieces) None
Tells source (Err (Transport fault)) = (pieces : List (List ℕ)) × source (map Ok pieces) (Some (Err fault))
Tells source (Err _) = ⊤

module _ {S : Type 0} where
  abbrev pub stream_of : Saving S → S
  stream_of s = s.stream

  -- the path of the temporary file
  abbrev pub temp_of : Saving S → List ℕ
  temp_of s = string_bytes s.temp

  -- the path of the file
  abbrev pub target_of : Saving S → List ℕ
  target_of s = string_bytes s.path
