-- The file that an update last asked for.
use Rattle.std.specs.Prelude.{◌≡◌, ◌⊎◌, ℕ, List, Option, Some, None}
use Rattle.tough_update.specs.Stages.{StageDoc}
use Rattle.tough_update.specs.Stages as at

-- the name of the file that is waited for
abbrev pub file_asked : StageDoc → Option (List ℕ)
file_asked (at.Fetch w r) = Some r.name
file_asked stage = None

-- After an answer the file that was last asked for is the one that was waited for, if there was memory for its name; where none was, it
-- is the one before.
abbrev pub IsLastFile : Option (List ℕ) → Option (List ℕ) → Option (List ℕ) → Type 0
IsLastFile None old new = new ≡ old
IsLastFile (Some name) old new = (new ≡ Some name) ⊎ (new ≡ None)
