-- What a refusal tells: the path to what was refused, and what that isn't.
use Rattle.std.specs.Prelude.{◌≡◌, ℕ, List, [], ◌∷◌, ◌++◌, ◌==◌, if◌then◌else◌, codes, decimal, string_bytes, ⊤}
use Rattle.tough_json.specs.declared.error.ReadError.{ReadError}
use Rattle.tough_json.specs.declared.error.ReadError.TheVariants as errors

-- `[2].keyid` and `(no text)` stand behind a name as they are, `keyid` behind a dot
abbrev pub separator : List ℕ → List ℕ
separator [] = []
separator (c ∷ cs) = if c == 91 then [] else if c == 40 then codes " " else codes "."

-- what is told of a member, under the member's name
abbrev pub under : List ℕ → List ℕ → List ℕ
under name told = (name ++ separator told) ++ told

-- an item's place, which is its name
abbrev pub place_text : ℕ → List ℕ
place_text n = (codes "[" ++ decimal n) ++ codes "]"

-- it is refused with this text, unless there is no memory
abbrev pub Tells : List ℕ → ReadError → Type 0
Tells text (errors.Json place) = ⊥
Tells text (errors.Shape told) = string_bytes told ≡ text
Tells text errors.Memory = ⊤

-- the second refuses what the first does, and tells it under the name
abbrev pub TellsUnder : List ℕ → ReadError → ReadError → Type 0
TellsUnder name (errors.Json place) e = e ≡ errors.Json place
TellsUnder name (errors.Shape told) e = Tells (under name (string_bytes told)) e
TellsUnder name errors.Memory e = e ≡ errors.Memory
