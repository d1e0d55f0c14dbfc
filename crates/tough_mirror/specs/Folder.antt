-- A folder into which the files of a repository are written, and from which they are served (TUF specification 1.0, section 3.1.2).
use Rattle.std.specs.Prelude.{◌≡◌, ℕ, ℤ, List, None}
use Rattle.std.specs.List.{AllByRecursion}
use Rattle.std.specs.Path.{path_join}
use Rattle.tough_files.specs.Contents.{Contents}
use Rattle.tough_keys.specs.Same.{Verifies}
use Rattle.tough_trust.specs.Requests.{RequestDoc}
use Rattle.tough_update.specs.Answered.{AnswerDoc}
use Rattle.tough_update.specs.Loadable.{Files, AllHonest}
use Rattle.tough_update.specs.Machine.{question}
use Rattle.tough_update.specs.Questions.{Fetch}
use Rattle.tough_update.specs.Runs.{run}
use Rattle.tough_update.specs.Stages.{CoreDoc}
use Rattle.tough_release.specs.declared.repository.SignedRepository.{SignedRepository}
use Rattle.tough_round.specs.Files.{files_of, written}
use Rattle.tough_write.specs.Filling.{HasNoLink, content_at, file_path}

-- under each name what a file of that name in the folder holds
abbrev pub files_in : List ℕ → Contents → Files
files_in outdir contents name = content_at contents (path_join outdir name)

-- No link stands at the path of one of the repository's files, and nothing at that of another file that an update which begins so at this moment asks
-- for, where all that it was answered is honest: that is the next root's, so what an earlier repository of the same root left there is in nobody's way.
pub record IsFree (verifies : Verifies) (c : CoreDoc) (outdir : List ℕ) (r : SignedRepository) (now : ℤ) (contents : Contents) : Type 0 where
  pub plain : AllByRecursion (λ f. HasNoLink contents (file_path outdir f)) (written r)
  pub others : (answers : List AnswerDoc) (q : RequestDoc) → AllHonest verifies (files_of r) now c answers → question (run verifies c answers) ≡ Fetch q → files_of r q.name ≡ None
      → contents (path_join outdir q.name) ≡ None
