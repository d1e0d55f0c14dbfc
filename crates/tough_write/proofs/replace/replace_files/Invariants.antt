use Rattle.std.proofs.Common.{◌≡◌, true, drop, map}
use Rattle.tough_write.specs.Replacing.{AreReplaced, StopsAmong, file_doc}
use Rattle.tough_write.specs.declared.replace.ReplaceError.{ReplaceError}
use Rattle.tough_write.proofs.replace.replace_files.Given as goal

-- what replaces the rest replaces all
abbrev pub invariant-loop-file : goal.invariant-loop-file
invariant-loop-file g l = record {
  all : g.F.Files.tells ≡ true → (after : _)
      → AreReplaced l.folder (map file_doc (drop l.file-index l.list)) (g.F.Files.contents l.files) after
      → AreReplaced l.folder (map file_doc l.list) (g.F.Files.contents l.fn.files) after;
  stops : g.F.Files.tells ≡ true → (e : ReplaceError) (after : _)
      → StopsAmong l.folder (map file_doc (drop l.file-index l.list)) e (g.F.Files.contents l.files) after
      → StopsAmong l.folder (map file_doc l.list) e (g.F.Files.contents l.fn.files) after;
}
