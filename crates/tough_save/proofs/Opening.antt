-- What is answered where no folder stands.
use Rattle.std.specs.Prelude.{◌≢◌, ℕ, List, refl}
use Rattle.tough_files.specs.declared.files.FileKind.{FileKind}
use Rattle.tough_files.specs.declared.files.FileKind.TheVariants.{File, Folder, Link, Other}
use Rattle.tough_files.specs.declared.files.FilesError.{FilesError}
use Rattle.tough_files.specs.declared.files.FilesError.TheVariants.{NotFound, Failed, Memory}
use Rattle.tough_files.specs.Calls.{Told, found, refused}
use Rattle.tough_save.specs.Errors.{TellsNoFolder}
use Rattle.tough_save.specs.Folders.{Found, Fails, is_folder}
use Rattle.tough_save.specs.Scripts.{Stops}

module _ (path : List ℕ) (result : Found) (old new : List Told) where
  pub other_kind : (kind : FileKind) → kind ≢ Folder → Stops (Fails (TellsNoFolder path) result) old new → is_folder path result (found kind) old new
  other_kind File other h = h
  other_kind Folder other h = absurd (other refl)
  other_kind Link other h = h
  other_kind Other other h = h

  pub other_error : (e : FilesError) → e ≢ Memory → Stops (Fails (TellsNoFolder path) result) old new → is_folder path result (refused e) old new
  other_error NotFound other h = h
  other_error Failed other h = h
  other_error Memory other h = absurd (other refl)
