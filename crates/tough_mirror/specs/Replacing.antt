-- A folder in which the files of a repository are replaced one after another, the timestamp last (TUF specification 1.0, section 6.2: with consistent snapshots a client that began before reads the files of its version).
use Rattle.std.specs.Prelude.{◌≡◌, ℕ, ℤ, List}
use Rattle.std.specs.Path.{path_join}
use Rattle.tough_files.specs.Contents.{Contents}
use Rattle.tough_keys.specs.Same.{Verifies}
use Rattle.tough_trust.specs.Requests.{RequestDoc}
use Rattle.tough_update.specs.Answered.{AnswerDoc}
use Rattle.tough_update.specs.Loadable.{Files, AllHonest}
use Rattle.tough_update.specs.Machine.{question}
use Rattle.tough_update.specs.Questions.{Fetch}
use Rattle.tough_update.specs.Runs.{run}
use Rattle.tough_update.specs.Stages.{CoreDoc}
use Rattle.tough_write.specs.Filling.{HasNoLink}
use Rattle.tough_write.specs.Replacing.{FileDoc, IsNoTemporary, IsNoneOf}
use Rattle.tough_mirror.specs.Folder.{files_in}

-- The file of this name stands in the folder as a version has it, at a path without a link, which none of the others that are replaced has.
pub record StandsApart (folder : List ℕ) (others : List FileDoc) (files : Files) (before : Contents) (name : List ℕ) : Type 0 where
  pub stands : files name ≡ files_in folder before name
  pub plain : HasNoLink before (path_join folder name)
  pub none : IsNoneOf folder others (path_join folder name)
  pub no_temporary : IsNoTemporary folder (path_join folder name)

-- So does each that an update of that version, which begins so at this moment, asks for, where all that it was answered is honest.
abbrev pub VersionStands : Verifies → CoreDoc → Files → ℤ → List ℕ → List FileDoc → Contents → Type 0
VersionStands verifies c files now folder others before = (answers : List AnswerDoc) (q : RequestDoc) → AllHonest verifies files now c answers → question (run verifies c answers) ≡ Fetch q
    → StandsApart folder others files before q.name
