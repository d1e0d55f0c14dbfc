use Rattle.std.proofs.Common.{◌≡◌, true, take}
use Rattle.tough_files.specs.Contents.{Same}
use Rattle.tough_release.specs.Edits.{release_doc}
use Rattle.tough_release.specs.Changes.{AreAdded, AreAddedOf}
use Rattle.tough_release.proofs.edits.RepositoryEdits.add_target_paths.Given as goal

abbrev pub invariant-loop-path : goal.invariant-loop-path
invariant-loop-path g l =
    AreAdded (take l.path-index l.paths) (release_doc l.fn.self) (release_doc l.self)
    × (g.F.Files.tells ≡ true → AreAddedOf (g.F.Files.contents l.fn.files) (take l.path-index l.paths) (release_doc l.fn.self) (release_doc l.self))
    × (g.F.Files.tells ≡ true → Same (g.F.Files.contents l.fn.files) (g.F.Files.contents l.files))
