-- The file of a signed document.
use Rattle.std.specs.Prelude.{ℕ, List}
use Rattle.tough_sign.specs.declared.file.RoleFile.{RoleFile}

abbrev pub bytes_of : RoleFile → List ℕ
bytes_of f = f.bytes.items
