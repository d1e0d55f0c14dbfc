-- Which wide error tells of a refused output.
use Rattle.std.specs.Prelude.{◌≡◌, ◌⊎◌, String, string_bytes}
use Rattle.std.specs.declared.alloc.Global.{Global}
use Rattle.tough_error.specs.Names.{name_error}
use Rattle.tough_error.specs.declared.error.Error.{Error}
use Rattle.tough_error.specs.declared.error.Error.TheVariants as wide
use Rattle.tough_schema.specs.FileDigest.{file_error}
use Rattle.tough_schema.specs.declared.file_digest.FileError.{FileError}
use Rattle.tough_write.specs.declared.error.OutputError.{OutputError}
use Rattle.tough_write.specs.declared.error.OutputError.TheVariants as error

-- no target can be made of the file at the path, or there was no memory to tell the path twice
abbrev pub IsUnmade : String Global → FileError → Error → Type 0
IsUnmade path source w = (w ≡ wide.Memory) ⊎ ((s : String Global) × (string_bytes s ≡ string_bytes path) × (w ≡ wide.TargetFromPath path (file_error source s)))

-- the wide error of the same name, with the same members
abbrev pub IsWidened : OutputError → Error → Type 0
IsWidened (error.DirCreate path source) w = w ≡ wide.DirCreate path source
IsWidened (error.AbsolutePath path source) w = w ≡ wide.AbsolutePath path source
IsWidened (error.FileWrite path source) w = w ≡ wide.FileWrite path source
IsWidened (error.LinkCreate path source) w = w ≡ wide.LinkCreate path source
IsWidened (error.RemoveTarget path source) w = w ≡ wide.RemoveTarget path source
IsWidened (error.FileMetadata path source) w = w ≡ wide.FileMetadata path source
IsWidened (error.FileRead path source) w = w ≡ wide.FileRead path source
IsWidened (error.WalkDir directory source) w = w ≡ wide.WalkDir directory source
IsWidened (error.PathIsNotFile path) w = w ≡ wide.PathIsNotFile path
IsWidened (error.NoFileName path) w = w ≡ wide.NoFileName path
IsWidened (error.Name why) w = w ≡ name_error why
IsWidened (error.TargetFromPath path source) w = IsUnmade path source w
IsWidened (error.PathIsNotTarget path) w = w ≡ wide.PathIsNotTarget path
IsWidened (error.HashMismatch context calculated expected) w = w ≡ wide.HashMismatch context calculated expected
IsWidened (error.SaveTargetUnsafePath name outdir filepath) w = w ≡ wide.SaveTargetUnsafePath name outdir filepath
IsWidened (error.TargetFileTypeMismatch expected found path) w = w ≡ wide.TargetFileTypeMismatch expected found path
IsWidened (error.InvalidFileType path) w = w ≡ wide.InvalidFileType path
IsWidened (error.PathExistsFail path) w = w ≡ wide.PathExistsFail path
IsWidened error.Memory w = w ≡ wide.Memory
