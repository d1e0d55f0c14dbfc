-- The calls by which a file is written as a whole.
use Rattle.std.specs.Prelude.{◌≡◌, ◌⊎◌, ℕ, List, ◌++◌, Result, Ok, Err}
use Rattle.tough_files.specs.declared.files.FilesError.{FilesError}
use Rattle.tough_files.specs.Calls.{Told, told_of, done, refused, create_at, append_to}

-- the calls once an empty file is there
abbrev pub created : List ℕ → List Told → List Told
created path old = old ++ told_of (create_at path) done

-- an empty file is made, and then the bytes are appended to it; the first refusal is the answer
abbrev pub Writes : List ℕ → List ℕ → Result (Unit {0}) FilesError → List Told → List Told → Type 0
Writes path bytes (Ok u) old new = new ≡ created path old ++ told_of (append_to path bytes) done
Writes path bytes (Err e) old new = (new ≡ old ++ told_of (create_at path) (refused e))
    ⊎ (new ≡ created path old ++ told_of (append_to path bytes) (refused e))
