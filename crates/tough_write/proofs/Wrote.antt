-- What comes of writing a file.
use Rattle.std.specs.Prelude.{ℕ, List}
use Rattle.tough_save.specs.Scripts.{Script}
use Rattle.tough_write.specs.declared.write.NamedFile.{NamedFile}
use Rattle.tough_write.specs.Steps.{Done}
use Rattle.tough_write.specs.Writing.{WritesRole, file_doc}

-- a named file is written
abbrev pub WritesNamed : List ℕ → NamedFile → Done → Script
WritesNamed outdir f = WritesRole outdir (file_doc f)
