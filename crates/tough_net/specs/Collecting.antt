-- The whole of what a URL serves, bounded and checked.
use Rattle.std.specs.Prelude.{◌≡◌, ℕ, ◌≤◌, ◌<◌, List, ◌++◌, length, map, Option, Some, None, Result, Ok, Err, Vec, ◌⊎◌, string_bytes}
use Rattle.std.specs.declared.alloc.Global.{Global}
use Rattle.futures.specs.Runs.{Runs}
use Rattle.tough_net.specs.declared.error.TransportError.{TransportError}
use Rattle.tough_net.specs.declared.collect.Collect.{Collect}
use Rattle.tough_net.specs.Digests.{Digests, digests_of, HasDigests, Lacks}
use Rattle.tough_net.specs.Errors.{IsMemory, IsExceeded}
use Rattle.tough_net.specs.Items.{Item}
use Rattle.tough_net.specs.Joining.{joined_pieces}

-- what is asked of the bytes at a URL: to be no more than max, and to have each digest that is stated
pub record Bounds : Type 0 where
  pub url : List ℕ
  pub max : ℕ
  pub specifier : List ℕ
  pub digests : Digests

-- these bytes are as asked
abbrev pub Fits : Bounds → List ℕ → Type 0
Fits bounds bytes = (length bytes ≤ bounds.max) × HasDigests bounds.digests bytes

-- these bytes haven't a digest that is stated, and the error says so of the first
abbrev pub Misfits : Bounds → List ℕ → TransportError → Type 0
Misfits bounds = Lacks bounds.url bounds.digests

-- these bytes are too many, and the error says so
abbrev pub Exceeds : Bounds → List ℕ → TransportError → Type 0
Exceeds bounds bytes e = (bounds.max < length bytes) × IsExceeded bounds.url bounds.max bounds.specifier e

module _ (bounds : Bounds) (source : Runs Item) (held : List ℕ) where
  -- these pieces may come, which are within the limit after what is held, and then this one more answer
  pub record Comes (pieces : List (List ℕ)) (last : Option Item) : Type 0 where
    pub came : source (map Ok pieces) last
    pub within : length (held ++ joined_pieces pieces) ≤ bounds.max

  -- source is cut off by e: there was no memory, it gave e, it gave too much, or what it gave hasn't a digest that is stated
  abbrev pub IsCutOff : TransportError → Type 0
  IsCutOff e = IsMemory e
      ⊎ (((pieces : List (List ℕ)) × Comes pieces (Some (Err e)))
      ⊎ (((pieces : List (List ℕ)) × (piece : List ℕ) × Comes pieces (Some (Ok piece)) × Exceeds bounds ((held ++ joined_pieces pieces) ++ piece) e)
      ⊎ ((pieces : List (List ℕ)) × Comes pieces None × Misfits bounds (held ++ joined_pieces pieces) e)))

  -- all the pieces of source, joined after what is held, which fit; or the error that cut it off
  abbrev pub Collects : Result (Vec ℕ Global) TransportError → Type 0
  Collects (Ok v) = (pieces : List (List ℕ)) × Comes pieces None × (v.items ≡ held ++ joined_pieces pieces) × Fits bounds v.items
  Collects (Err e) = IsCutOff e

module _ {S : Type 0} where
  abbrev pub collected : Collect S → S
  collected m = m.stream

  abbrev pub bounds_of : Collect S → Bounds
  bounds_of m = record { url = string_bytes m.url; max = m.max_size; specifier = m.specifier.now; digests = digests_of m.digests }

  -- the bytes so far
  abbrev pub held_by : Collect S → List ℕ
  held_by m = m.bytes.items
