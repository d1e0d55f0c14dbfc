-- The calls by which a file is measured.
use Rattle.std.specs.Prelude.{◌≡◌, ◌⊎◌, ℕ, ◌+◌, ◌-◌, ◌^◌, ◌≤◌, List, [], ◌∷◌, ◌++◌, length, true, Result, Ok, Err}
use Rattle.std.specs.List.{concat}
use Rattle.sha2.specs.Sha256.{sha256}
use Rattle.tough_files.specs.declared.files.FileKind.TheVariants.{File}
use Rattle.tough_files.specs.declared.files.FilesError.{FilesError}
use Rattle.tough_files.specs.declared.files.FilesError.TheVariants as fault
use Rattle.tough_files.specs.Calls.{Asked, Answered, Told, told_of, kind_of, read_at, found, got, refused}
use Rattle.tough_schema.specs.declared.file_digest.Digests.{Digests}
use Rattle.tough_schema.specs.declared.file_digest.Measured.{Measured}
use Rattle.tough_schema.specs.declared.file_digest.Reading.{Reading}
use Rattle.tough_schema.specs.declared.file_digest.FileError.{FileError}
use Rattle.tough_schema.specs.declared.file_digest.FileError.TheVariants as why
use Rattle.tough_schema.specs.FileDigest.{HoldsBoth, second_digest}

-- a read from a place on
abbrev pub read_from : List ℕ → ℕ → Asked
read_from path start = read_at path start 4096

-- reads that gave these pieces, each from where the one before ended
abbrev pub reads_of : List ℕ → ℕ → List (List ℕ) → List Told
reads_of path start [] = []
reads_of path start (p ∷ ps) = told_of (read_from path start) (got p) ++ reads_of path (start + length p) ps

-- such reads, and one more that was answered so
abbrev pub reads_to : List ℕ → List (List ℕ) → Answered → List Told
reads_to path pieces last = reads_of path 0 pieces ++ told_of (read_from path (length (concat pieces))) last

-- The file is read up to a read that gives nothing: the pieces are what is measured. Or a read is refused, or more comes than a length counts.
abbrev pub ReadsAll : Digests → List ℕ → Result Measured FilesError → List Told → List Told → Type 0
ReadsAll digests path (Ok m) old new = (pieces : List (List ℕ)) × (new ≡ old ++ reads_to path pieces (got [])) × (m.length ≡ length (concat pieces)) × (m.sha256 ≡ sha256 (concat pieces)) × (m.sha512 ≡ second_digest digests (concat pieces))
ReadsAll digests path (Err e) old new = (pieces : List (List ℕ)) × ((new ≡ old ++ reads_to path pieces (refused e)) ⊎ ((e ≡ fault.Failed) × (new ≡ old ++ reads_of path 0 pieces) × (2 ^ 64 - 1 ≤ length (concat pieces))))

-- what a file's measure is, once it was seen that a file stands there
abbrev pub file_measured : Result Measured FilesError → Result Measured FileError
file_measured (Ok m) = Ok m
file_measured (Err fault.Memory) = Err why.Memory
file_measured (Err fault.NotFound) = Err why.FileRead
file_measured (Err fault.Failed) = Err why.FileRead

abbrev pub measured_there : Digests → List ℕ → Result Measured FileError → Answered → List Told → List Told → Type 0
measured_there digests path result (found File) old new = (r : Result Measured FilesError) × ReadsAll digests path r old new × (result ≡ file_measured r)
measured_there digests path result (found kind) old new = (new ≡ old) × (result ≡ Err why.TargetNotAFile)
measured_there digests path result (refused fault.Memory) old new = (new ≡ old) × (result ≡ Err why.Memory)
measured_there digests path result (refused e) old new = (new ≡ old) × (result ≡ Err why.FileOpen)
measured_there digests path result _ old new = ⊥

-- it is asked what stands there, links followed; a file is read
abbrev pub MeasuresBy : Digests → List ℕ → Result Measured FileError → List Told → List Told → Type 0
MeasuresBy digests path result old new = (answered : Answered) × measured_there digests path result answered (old ++ told_of (kind_of path true) answered) new

-- ---- words of private clauses

-- whether a file stands there, as it is asked
abbrev pub looked : Answered → Result (Unit {0}) FileError → Type 0
looked (found File) result = result ≡ Ok tt
looked (found kind) result = result ≡ Err why.TargetNotAFile
looked (refused fault.Memory) result = result ≡ Err why.Memory
looked (refused e) result = result ≡ Err why.FileOpen
looked _ result = ⊥

abbrev pub LooksBy : List ℕ → Result (Unit {0}) FileError → List Told → List Told → Type 0
LooksBy path result old new = (answered : Answered) × (new ≡ old ++ told_of (kind_of path true) answered) × looked answered result

-- one read, after what was read so far
abbrev pub FeedsBy : List ℕ → Reading → Result ℕ FilesError → Reading → List Told → List Told → Type 0
FeedsBy path r (Ok n) later old new = (p : List ℕ) × (new ≡ old ++ told_of (read_from path r.length) (got p)) × (n ≡ length p) × (later.length ≡ r.length + n)
    × ((digests : Digests) (s : List ℕ) → HoldsBoth digests r s → HoldsBoth digests later (s ++ p))
FeedsBy path r (Err e) later old new = (new ≡ old ++ told_of (read_from path r.length) (refused e))
    ⊎ ((p : List ℕ) × (e ≡ fault.Failed) × (new ≡ old ++ told_of (read_from path r.length) (got p)) × (2 ^ 64 ≤ r.length + length p))

-- what was read so far, by these calls
pub record HasReadBy (digests : Digests) (path : List ℕ) (old new : List Told) (count : ℕ) (r : Reading) : Type 0 where
  pub pieces : List (List ℕ)
  pub calls : new ≡ old ++ reads_of path 0 pieces
  pub size : r.length ≡ length (concat pieces)
  pub holds : HoldsBoth digests r (concat pieces)
  pub many : count ≤ r.length
