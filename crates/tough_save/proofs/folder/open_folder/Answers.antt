use Rattle.std.proofs.Common.{rules, string_bytes, Err}
use Rattle.tough_files.specs.Calls.{named, found, refused}
use Rattle.tough_files.specs.declared.files.FileKind.TheVariants.{Folder}
use Rattle.tough_files.specs.declared.files.FilesError.TheVariants as files
use Rattle.tough_save.proofs.Opening.{other_kind, other_error}
use Rattle.tough_save.proofs.folder.open_folder.Goals as goal

pub returns-in-Err : goal.returns-in-Err
returns-in-Err g c = λ tells. (refused c.in-Err.e, (search rules, search rules))

pub returns-then-eq : goal.returns-then-eq
returns-then-eq g c = λ tells. (named (string_bytes c.in-Ok.path), (found Folder, (search rules, search rules)))

pub returns-in-Ok-kind : goal.returns-in-Ok-kind
returns-in-Ok-kind g c = λ tells. (
  named (string_bytes c.in-Ok.path),
  (found c.in-Ok-kind.kind, other_kind (string_bytes c.in-Ok.path) (Err c.no_folder.result) _ _ c.in-Ok-kind.kind (search rules) (search rules, search rules)),
)

pub returns-then-eq-2 : goal.returns-then-eq-2
returns-then-eq-2 g c = λ tells. (named (string_bytes c.in-Ok.path), (refused files.Memory, (search rules, search rules)))

pub returns : goal.returns
returns g c = λ tells. (
  named (string_bytes c.in-Ok.path),
  (refused c.in-Err-kind.e, other_error (string_bytes c.in-Ok.path) (Err c.no_folder-else-eq-2.result) _ _ c.in-Err-kind.e (search rules) (search rules, search rules)),
)
