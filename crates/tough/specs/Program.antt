-- What the program vouches for and prints.
use Rattle.std.specs.Prelude.{◌≡◌, ℕ, List, [], ◌∷◌, ◌++◌, Ok, String, string_bytes, codes, decimal}
use Rattle.tough_names.specs.Named.{clean}
use Rattle.tough_keys.specs.Demo.{demo_verifies}
use Rattle.tough_schema.specs.Whole.{top_doc}
use Rattle.tough_update.specs.Answered.{AnswerDoc}
use Rattle.tough_update.specs.Runs.{WasStored}
use Rattle.tough_update.specs.Stages.{LoadedDoc, CoreDoc}
use Rattle.tough_update.specs.Trusted.{Trusted, Unexpired}

-- Documents that are trusted for the scheme of demonstrations, from the root that was handed in or from one that the store gave, and none of
-- which had expired when the load began.
pub record IsVouchedFor (l : LoadedDoc) : Type 0 where
  -- the update, and what it was answered
  pub update : CoreDoc
  pub answers : List AnswerDoc
  pub trusted : Trusted demo_verifies update.setting.trusted (WasStored demo_verifies update answers) l.known l.targets
  pub unexpired : Unexpired l.known l.targets

-- a role and its version
abbrev pub version_line : List ℕ → ℕ → List ℕ
version_line role version = role ++ codes " " ++ decimal version ++ codes "\n"

-- the versions of root, timestamp, snapshot and targets, a line each
abbrev pub versions_text : LoadedDoc → List ℕ
versions_text l =
    version_line (codes "root") l.known.root.role.head.version
    ++ version_line (codes "timestamp") l.known.timestamp.role.head.version
    ++ version_line (codes "snapshot") l.known.snapshot.role.head.version
    ++ version_line (codes "targets") (top_doc l.targets.role).head.version

-- the versions, and the line that tells which target was saved, and in which folder
abbrev pub report_text : LoadedDoc → List ℕ → List ℕ → List ℕ
report_text l name folder = versions_text l ++ (codes "saved " ++ name ++ codes " in " ++ folder ++ codes "\n")

-- the versions of documents that are vouched for
pub record IsVersions (text : List ℕ) : Type 0 where
  pub documents : LoadedDoc
  pub vouched : IsVouchedFor documents
  pub told : text ≡ versions_text documents

-- the report of documents that are vouched for, on the target that a word names and on a folder
pub record IsReport (name folder text : List ℕ) : Type 0 where
  pub documents : LoadedDoc
  pub vouched : IsVouchedFor documents
  pub resolved : List ℕ
  pub named : clean name ≡ Ok resolved
  pub told : text ≡ report_text documents resolved folder

-- What the program prints for its words where it succeeds: for five the versions (`load`), for seven the report (`get`). With any other
-- number of words it doesn't succeed.
abbrev pub Prints : {A : Type 0} → List (String A) → List ℕ → Type 0
Prints (command ∷ root ∷ metadata ∷ targets ∷ store ∷ []) text = IsVersions text
Prints (command ∷ root ∷ metadata ∷ targets ∷ store ∷ name ∷ folder ∷ []) text = IsReport (string_bytes name) (string_bytes folder) text
Prints _ text = ⊥
