-- Lists of calls to files, step by step: what each step asks, and what it gives to the next.
use Rattle.std.specs.Prelude.{◌≡◌, ◌⊎◌, ℕ, List, [], ◌∷◌, Result, Ok, Err, String, string_bytes, ⊤}
use Rattle.std.specs.declared.alloc.Global.{Global}
use Rattle.tough_files.specs.Calls.{Asked, Answered, Told, done, named, refused, make_folders_to, canonical_of}
use Rattle.tough_save.specs.Scripts.{Script, Asks, Stops}
use Rattle.tough_write.specs.declared.error.OutputError.{OutputError}
use Rattle.tough_write.specs.declared.error.OutputError.TheVariants as error
use Rattle.tough_write.specs.Errors.{OfRefusal, TellsRefusal}

-- what a step gives, or why it gave nothing
abbrev pub Outcome : Type 0 → Type 0
Outcome X = Result X OutputError

abbrev pub Done : Type 0
Done = Outcome (Unit {0})

module _ {X : Type 0} where
  abbrev pub IsDone : Outcome X → Type 0
  IsDone (Ok x) = ⊤
  IsDone (Err e) = ⊥

  abbrev pub Fails : (OutputError → Type 0) → Outcome X → Type 0
  Fails tells (Ok x) = ⊥
  Fails tells (Err e) = tells e

  -- no call is made, for want of memory
  abbrev pub Starves : Outcome X → Script
  Starves result = Stops (Fails (λ e. e ≡ error.Memory) result)

  -- a step, unless there is no memory for it
  abbrev pub IfMemory : (Outcome X → Script) → Outcome X → Script
  IfMemory goes result old new = Starves result old new ⊎ goes result old new

module _ {X Y : Type 0} where
  -- a step, and then what follows on what it gave; an error of the first is that of both
  abbrev pub Then : (Outcome X → Script) → (X → Outcome Y → Script) → Outcome Y → Script
  Then first next result old new = ((e : OutputError) × first (Err e) old new × (result ≡ Err e))
      ⊎ ((x : X) × (mid : List Told) × first (Ok x) old mid × next x result mid new)

-- the same for each of a list, up to the first error
abbrev pub EachOf : {X : Type 0} → (X → Done → Script) → List X → Done → Script
EachOf does [] result old new = Stops (IsDone result) old new
EachOf does (x ∷ xs) result old new = Then (does x) (λ u. EachOf does xs) result old new

-- ---- single calls

abbrev pub is_done : OfRefusal → List ℕ → Done → Answered → Type 0
is_done make path (Ok u) done = ⊤
is_done make path (Err e) (refused why) = TellsRefusal make path why e
is_done make path _ _ = ⊥

-- a call on this path is done, or a refusal is told so
abbrev pub Does : Asked → OfRefusal → List ℕ → Done → Script
Does asked make path result = Asks asked (λ answered. Stops (is_done make path result answered))

-- a folder is made, and those above it
abbrev pub MakesFolders : List ℕ → Done → Script
MakesFolders path result = Does (make_folders_to path) error.DirCreate path result

abbrev pub is_named : OfRefusal → List ℕ → Outcome (String Global) → Answered → Type 0
is_named make path (Ok p) (named real) = string_bytes p ≡ real
is_named make path (Err e) (refused why) = TellsRefusal make path why e
is_named make path _ _ = ⊥

-- the path of what stands there, links followed
abbrev pub Resolves : List ℕ → Outcome (String Global) → Script
Resolves path result = Asks (canonical_of path) (λ answered. Stops (is_named error.AbsolutePath path result answered))
