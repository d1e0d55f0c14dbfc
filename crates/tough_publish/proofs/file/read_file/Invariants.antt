use Rattle.std.proofs.Common.{◌≡◌, true}
use Rattle.tough_files.specs.Contents.{Same}
use Rattle.tough_schema.specs.FileDigest.{there}
use Rattle.tough_publish.proofs.Pieces.{Begins}
use Rattle.tough_publish.proofs.file.read_file.Given as goal

abbrev pub invariant-loop : goal.invariant-loop
invariant-loop g l =
    (g.F.Files.tells ≡ true → Same (g.F.Files.contents l.fn.files) (g.F.Files.contents l.files))
    × (g.F.Files.tells ≡ true → Begins (there l.path (g.F.Files.contents l.fn.files)) l.bytes.items l.counter)
