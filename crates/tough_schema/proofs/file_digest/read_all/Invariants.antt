use Rattle.std.proofs.Common.{◌≡◌, ◌≤◌, List, ℕ, Some, true}
use Rattle.tough_files.specs.Contents.{file, Same}
use Rattle.tough_schema.specs.FileDigest.{there, HasRead}
use Rattle.tough_schema.specs.Measuring.{HasReadBy}
use Rattle.tough_schema.proofs.file_digest.read_all.Given as goal

abbrev pub invariant-loop : goal.invariant-loop
invariant-loop g l =
    (g.F.Files.tells ≡ true → Same (g.F.Files.contents l.fn.files) (g.F.Files.contents l.files))
    × ((bytes : List ℕ) → g.F.Files.tells ≡ true → there l.path (g.F.Files.contents l.fn.files) ≡ Some (file bytes) → HasRead l.fn.digests bytes l.reading × (l.counter ≤ l.reading.length))
    × (g.F.Files.tells ≡ true → HasReadBy l.fn.digests l.path (g.F.Files.calls l.fn.files) (g.F.Files.calls l.files) l.counter l.reading)
