-- In which order the files of a repository are replaced: the timestamp last, so that each file that it leads to is there before it (TUF specification 1.0, section 6.2, consistent snapshots: a client reads the timestamp, and by it the versions of the others).
use Rattle.std.specs.Prelude.{Bool, List, [], ◌∷◌, ◌++◌}
use Rattle.tough_release.specs.declared.repository.SignedRepository.{SignedRepository}
use Rattle.tough_release.specs.Repository.{delegated_of}
use Rattle.tough_signed.specs.Standing.{is_consistent}
use Rattle.tough_write.specs.Writing.{FileDoc, repository_files}

-- of the files of a root, targets, a snapshot, a timestamp and delegated roles, in the order in which they are written: the delegated roles', the targets', the snapshot's, the root's, the timestamp's
abbrev pub timestamp_last : List FileDoc → List FileDoc
timestamp_last (root ∷ targets ∷ snapshot ∷ timestamp ∷ delegated) = delegated ++ (targets ∷ snapshot ∷ root ∷ timestamp ∷ [])
timestamp_last files = files

-- the files of a repository in that order
abbrev pub replaced_files : SignedRepository → List FileDoc
replaced_files r = timestamp_last (repository_files (is_consistent (delegated_of r)) r)
