-- The length and the digests of a file, and the target that it is (TUF specification 1.0, section 4.5, TARGETS).
use Rattle.std.specs.Prelude.{◌≡◌, ⊤, ℕ, ◌+◌, ◌-◌, ◌^◌, ◌≤◌, List, [], ◌++◌, length, take, Option, Some, None, Result, Ok, Err, String}
use Rattle.sha2.specs.Sha256.{sha256}
use Rattle.sha2.specs.Sha512.{sha512}
use Rattle.sha2.specs.Hashers.{Holds256, Holds512}
use Rattle.sha2.specs.declared.Sha512.{Sha512}
use Rattle.tough_files.specs.Contents.{Node, file, folder, link, Contents, node_at, followed}
use Rattle.std.specs.declared.alloc.Global.{Global}
use Rattle.tough_files.specs.declared.files.FilesError.{FilesError}
use Rattle.tough_files.specs.declared.files.FilesError.TheVariants as fault
use Rattle.tough_schema.specs.declared.file_digest.Digests.{Digests}
use Rattle.tough_schema.specs.declared.file_digest.Digests.TheVariants as asked
use Rattle.tough_schema.specs.declared.file_digest.Measured.{Measured}
use Rattle.tough_schema.specs.declared.file_digest.Reading.{Reading}
use Rattle.tough_schema.specs.declared.file_digest.FileError.{FileError}
use Rattle.tough_schema.specs.declared.file_digest.FileError.TheVariants as why
use Rattle.tough_roles.specs.declared.error.Error.{Error}
use Rattle.tough_roles.specs.declared.error.Error.TheVariants as errors

-- what stands at the path, links followed
abbrev pub there : List ℕ → Contents → Option Node
there path contents = node_at contents (followed contents path)

abbrev pub IsFile : Option Node → Type 0
IsFile n = (bytes : List ℕ) × (n ≡ Some (file bytes))

-- a folder, or a link after the last that is followed
abbrev pub IsOther : Option Node → Type 0
IsOther None = ⊥
IsOther (Some (file bytes)) = ⊥
IsOther (Some folder) = ⊤
IsOther (Some (link target)) = ⊤

-- a file that is too long to be measured: a length has 64 bits
abbrev pub IsEndless : Option Node → Type 0
IsEndless n = (bytes : List ℕ) × (n ≡ Some (file bytes)) × (2 ^ 64 - 1 ≤ length bytes)

-- whether a file stands there
abbrev pub Stands : Option Node → Result (Unit {0}) FileError → Type 0
Stands n (Ok u) = IsFile n
Stands n (Err why.FileOpen) = n ≡ None
Stands n (Err why.TargetNotAFile) = IsOther n
Stands n (Err why.FileRead) = ⊥
Stands n (Err why.Memory) = ⊤

-- the SHA-512 of the bytes, where it is asked for
abbrev pub second_digest : Digests → List ℕ → Option (List ℕ)
second_digest asked.Sha256 bytes = None
second_digest asked.Both bytes = Some (sha512 bytes)

-- what reading a file of these bytes comes to
abbrev pub MeasuresFile : Digests → List ℕ → Result Measured FilesError → Type 0
MeasuresFile digests bytes (Ok m) = (m.length ≡ length bytes) × (m.sha256 ≡ sha256 bytes) × (m.sha512 ≡ second_digest digests bytes)
MeasuresFile digests bytes (Err fault.Memory) = ⊤
MeasuresFile digests bytes (Err fault.NotFound) = 2 ^ 64 - 1 ≤ length bytes
MeasuresFile digests bytes (Err fault.Failed) = 2 ^ 64 - 1 ≤ length bytes

-- what measuring comes to where this stands; want of memory says nothing
abbrev pub Measures : Digests → Option Node → Result Measured FileError → Type 0
Measures digests n (Ok m) = (bytes : List ℕ) × (n ≡ Some (file bytes)) × (m.length ≡ length bytes) × (m.sha256 ≡ sha256 bytes) × (m.sha512 ≡ second_digest digests bytes)
Measures digests n (Err why.FileOpen) = n ≡ None
Measures digests n (Err why.TargetNotAFile) = IsOther n
Measures digests n (Err why.FileRead) = IsEndless n
Measures digests n (Err why.Memory) = ⊤

-- there is a hasher of SHA-512 where it is asked for, and it holds these bytes
abbrev pub HoldsSecond : Option Sha512 → Digests → List ℕ → Type 0
HoldsSecond None asked.Sha256 bytes = ⊤
HoldsSecond None asked.Both bytes = ⊥
HoldsSecond (Some s) asked.Sha256 bytes = ⊥
HoldsSecond (Some s) asked.Both bytes = Holds512 s bytes

-- such a hasher takes in more bytes
abbrev pub TakesIn : Option Sha512 → List ℕ → Option Sha512 → Type 0
TakesIn old more new = (digests : Digests) (bytes : List ℕ) → HoldsSecond old digests bytes → HoldsSecond new digests (bytes ++ more)

-- the digest of what it holds
abbrev pub Finishes : Option Sha512 → Option (List ℕ) → Type 0
Finishes hasher digest = (digests : Digests) (bytes : List ℕ) → HoldsSecond hasher digests bytes → digest ≡ second_digest digests bytes

-- the hashers hold these bytes
abbrev pub HoldsBoth : Digests → Reading → List ℕ → Type 0
HoldsBoth digests r bytes = Holds256 r.hasher bytes × HoldsSecond r.second digests bytes

-- nothing was read yet
abbrev pub Begins : Digests → Reading → Type 0
Begins digests r = HoldsBoth digests r [] × (r.length ≡ 0)

-- the hashers hold what was read: a beginning of the bytes
pub record HasRead (digests : Digests) (bytes : List ℕ) (r : Reading) : Type 0 where
  pub within : r.length ≤ length bytes
  pub holds : HoldsBoth digests r (take r.length bytes)

-- what reading on comes to
abbrev pub Feeds : Digests → List ℕ → Reading → Result ℕ FilesError → Reading → Type 0
Feeds digests bytes old (Ok n) new = HasRead digests bytes new × (new.length ≡ old.length + n) × (n ≡ 0 → new.length ≡ length bytes)
Feeds digests bytes old (Err fault.Memory) new = ⊤
Feeds digests bytes old (Err fault.NotFound) new = 2 ^ 64 - 1 ≤ length bytes
Feeds digests bytes old (Err fault.Failed) new = 2 ^ 64 - 1 ≤ length bytes

-- the error of documents that a file's is, with its path
abbrev pub file_error : FileError → String Global → Error
file_error why.FileOpen path = errors.FileOpen path
file_error why.TargetNotAFile path = errors.TargetNotAFile path
file_error why.FileRead path = errors.FileRead path
file_error why.Memory path = errors.Memory
