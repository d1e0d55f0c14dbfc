-- The whole of a stream of bytes.
use Rattle.std.specs.Prelude.{◌≡◌, ℕ, List, ◌++◌, map, flat_map, Result, Ok, Err, Some, None, Vec, ◌⊎◌}
use Rattle.std.specs.declared.alloc.Global.{Global}
use Rattle.futures.specs.Runs.{Runs}
use Rattle.tough_net.specs.declared.error.TransportError.{TransportError}
use Rattle.tough_net.specs.Errors.{IsMemory}
use Rattle.tough_net.specs.Items.{Item}
use Rattle.tough_net.specs.declared.into_vec.IntoVecFuture.{IntoVecFuture}

-- the bytes of all pieces
abbrev pub joined_pieces : List (List ℕ) → List ℕ
joined_pieces = flat_map (λ piece. piece)

-- the pieces of source up to its end, joined after what is held, or its first error; or there was no memory
abbrev pub Joins : Runs Item → List ℕ → Result (Vec ℕ Global) TransportError → Type 0
Joins source held (Ok v) = (pieces : List (List ℕ)) × source (map Ok pieces) None × (v.items ≡ held ++ joined_pieces pieces)
Joins source held (Err e) = ((pieces : List (List ℕ)) × source (map Ok pieces) (Some (Err e))) ⊎ IsMemory e

module _ {S : Type 0} where
  abbrev pub stream_of : IntoVecFuture S → S
  stream_of m = m.stream

  -- the bytes joined so far
  abbrev pub held_in : IntoVecFuture S → List ℕ
  held_in m = m.bytes.items
