-- Lists of calls to files: each call by name, what it answers, and how that goes on.
use Rattle.std.specs.Prelude.{◌≡◌, List, ◌++◌}
use Rattle.tough_files.specs.Calls.{Asked, Answered, Told, told_of}

-- what the calls made of a list of calls: from this one to that one
abbrev pub Script : Type 1
Script = List Told → List Told → Type 0

-- a call is made, and then it goes on as its answer says
abbrev pub Asks : Asked → (Answered → Script) → Script
Asks asked next old new = (answered : Answered) × next answered (old ++ told_of asked answered) new

-- no more calls are made
abbrev pub Stops : Type 0 → Script
Stops fact old new = (new ≡ old) × fact
