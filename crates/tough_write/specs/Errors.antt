-- What the errors of an output tell.
use Rattle.std.specs.Prelude.{◌≡◌, ◌⊎◌, ℕ, List, string_bytes, String}
use Rattle.std.specs.declared.alloc.Global.{Global}
use Rattle.hex.specs.Hex.{encode_lower}
use Rattle.tough_files.specs.declared.files.FilesError.{FilesError}
use Rattle.tough_files.specs.declared.files.FilesError.TheVariants as files
use Rattle.tough_names.specs.Named.{Named}
use Rattle.tough_write.specs.declared.error.Step.{Step}
use Rattle.tough_write.specs.declared.error.Step.TheVariants as step
use Rattle.tough_write.specs.declared.error.OutputError.{OutputError}
use Rattle.tough_write.specs.declared.error.OutputError.TheVariants as error

-- an error that carries a path
abbrev pub OfPath : Type 0
OfPath = String Global → OutputError

-- an error that carries a path, and what was wrong
abbrev pub OfRefusal : Type 0
OfRefusal = String Global → FilesError → OutputError

-- the error with this path, if there was memory to tell it
abbrev pub Tells : OfPath → List ℕ → OutputError → Type 0
Tells make path e = (e ≡ error.Memory) ⊎ ((p : String Global) × (string_bytes p ≡ path) × (e ≡ make p))

-- what is told of a call on this path that was refused
abbrev pub TellsRefusal : OfRefusal → List ℕ → FilesError → OutputError → Type 0
TellsRefusal make path files.Memory e = e ≡ error.Memory
TellsRefusal make path why e = Tells (λ p. make p why) path e

-- two digests differ: that of these bytes, and the listed one
abbrev pub TellsMismatch : List ℕ → List ℕ → List ℕ → OutputError → Type 0
TellsMismatch context calculated expected e = (e ≡ error.Memory) ⊎ ((c m x : String Global) × (string_bytes c ≡ context) × (string_bytes m ≡ encode_lower calculated)
    × (string_bytes x ≡ encode_lower expected) × (e ≡ error.HashMismatch c m x))

-- the file of this name would stand at a path outside of the folder
abbrev pub TellsUnsafe : Named → List ℕ → List ℕ → OutputError → Type 0
TellsUnsafe name dir path e = (e ≡ error.Memory) ⊎ ((d p : String Global) × (string_bytes d ≡ dir) × (string_bytes p ≡ path) × (e ≡ error.SaveTargetUnsafePath name d p))

-- something of another kind stands at the path
abbrev pub TellsKind : List ℕ → List ℕ → List ℕ → OutputError → Type 0
TellsKind expected found path e = (e ≡ error.Memory) ⊎ ((x f p : String Global) × (string_bytes x ≡ expected) × (string_bytes f ≡ found) × (string_bytes p ≡ path)
    × (e ≡ error.TargetFileTypeMismatch x f p))

-- the error that tells of a refusal at this step
abbrev pub of_step : Step → OfRefusal
of_step step.MakeFolders path why = error.DirCreate path why
of_step step.Resolve path why = error.AbsolutePath path why
of_step step.Write path why = error.FileWrite path why
of_step step.Link path why = error.LinkCreate path why
of_step step.Remove path why = error.RemoveTarget path why
of_step step.Look path why = error.FileMetadata path why
of_step step.Read path why = error.FileRead path why
of_step step.Walk path why = error.WalkDir path why
