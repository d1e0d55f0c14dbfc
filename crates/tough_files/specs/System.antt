-- What the files of the operating system count and keep.
use Rattle.std.specs.Prelude.{◌≡◌, ℕ, Option, Result, Ok, Err, IsSome}
use Rattle.std.specs.declared.io.Error.{Error}
use Rattle.tough_files.specs.declared.files.FilesError.{FilesError}
use Rattle.tough_files.specs.declared.files.FilesError.TheVariants.{Memory}
use Rattle.tough_files.specs.declared.system.OsFiles.{OsFiles}

abbrev pub os_failures : {R : Type 0} → OsFiles R → ℕ
os_failures files = files.failures

-- what the operating system said when a call last failed or found nothing
abbrev pub last_fault : {R : Type 0} → OsFiles R → Option Error
last_fault files = files.fault

-- what was said of a call that failed or found nothing is kept; any other call leaves what was kept before
abbrev pub KeepsFault : {A : Type 0} → Option Error → Option Error → Result A FilesError → Type 0
KeepsFault before after (Ok answer) = after ≡ before
KeepsFault before after (Err Memory) = after ≡ before
KeepsFault before after (Err e) = IsSome after
