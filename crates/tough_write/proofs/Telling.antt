-- What is told of refused calls.
use Rattle.std.specs.Prelude.{◌≢◌, ℕ, List, refl}
use Rattle.tough_files.specs.declared.files.FilesError.{FilesError}
use Rattle.tough_files.specs.declared.files.FilesError.TheVariants as files
use Rattle.tough_schema.specs.declared.file_digest.FileError.{FileError}
use Rattle.tough_schema.specs.declared.file_digest.FileError.TheVariants as why
use Rattle.tough_write.specs.declared.error.OutputError.{OutputError}
use Rattle.tough_write.specs.declared.error.OutputError.TheVariants as error
use Rattle.tough_write.specs.Errors.{OfRefusal, Tells, TellsRefusal}
use Rattle.tough_write.specs.Putting.{TellsUnmeasured}

pub refusal_told : (make : OfRefusal) (path : List ℕ) (why : FilesError) (e : OutputError) → why ≢ files.Memory → Tells (λ p. make p why) path e → TellsRefusal make path why e
refusal_told make path files.NotFound e other h = h
refusal_told make path files.Failed e other h = h
refusal_told make path files.Memory e other h = absurd (other refl)

pub unmeasured_told : (input : List ℕ) (fault : FileError) (e : OutputError) → fault ≢ why.Memory → Tells (λ p. error.TargetFromPath p fault) input e → TellsUnmeasured input fault e
unmeasured_told input why.FileOpen e other h = h
unmeasured_told input why.TargetNotAFile e other h = h
unmeasured_told input why.FileRead e other h = h
unmeasured_told input why.Memory e other h = absurd (other refl)
