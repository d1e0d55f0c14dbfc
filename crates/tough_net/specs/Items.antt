-- The items of a stream of bytes.
use Rattle.std.specs.Prelude.{ℕ, List, [], ◌∷◌, ◌++◌, Option, Some, None, Result, Ok, Err}
use Rattle.tough_net.specs.declared.error.TransportError.{TransportError}

abbrev pub Item : Type 0
Item = Result (List ℕ) TransportError

-- an item's bytes
abbrev pub bytes_of : Item → List ℕ
bytes_of (Ok bytes) = bytes
bytes_of (Err _) = []

-- the bytes of all items
abbrev pub joined : List Item → List ℕ
joined [] = []
joined (x ∷ xs) = bytes_of x ++ joined xs

abbrev pub last_bytes : Option Item → List ℕ
last_bytes None = []
last_bytes (Some x) = bytes_of x

-- the bytes of these items and of the one more answer
abbrev pub all_bytes : List Item → Option Item → List ℕ
all_bytes xs last = joined xs ++ last_bytes last
