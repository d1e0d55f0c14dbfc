-- What files in memory serve.
use Rattle.std.specs.Prelude.{◌≡◌, ◌<◌, ℕ, List, [], ◌∷◌, ◌++◌, length, min, Option, Some, None, Ok, Err, IsSomeAnd, ◌⊎◌}
use Rattle.std.specs.BTreeMap.{get_by_text}
use Rattle.std.specs.Int.NonZero.{non_zero_usize_get}
use Rattle.tough_net.specs.declared.error.TransportError.{TransportError}
use Rattle.tough_net.specs.declared.error.TransportErrorKind.TheVariants.{FileNotFound}
use Rattle.tough_net.specs.declared.memory.MemoryTransport.{MemoryTransport}
use Rattle.tough_net.specs.declared.memory.MemoryStream.{MemoryStream}
use Rattle.tough_net.specs.Errors.{IsMemory, error_kind, error_url, error_cause}
use Rattle.tough_net.specs.Items.{Item}

-- the bytes at the URL of this text
abbrev pub file_at : MemoryTransport → List ℕ → Option (List ℕ)
file_at t = get_by_text t.files

-- the bytes that a stream has still to give
abbrev pub left_in : MemoryStream → List ℕ
left_in s = s.left

-- the most bytes of a piece of the stream
abbrev pub piece_len_in : MemoryStream → ℕ
piece_len_in s = non_zero_usize_get s.piece_len

-- what a stream of pieces of at most so many bytes gives next where these are left, and what it leaves
abbrev pub NextPiece : ℕ → List ℕ → Option Item → List ℕ → Type 0
NextPiece most left None later = (left ≡ []) × (later ≡ left)
NextPiece most left (Some (Ok piece)) later = (left ≡ piece ++ later) × (length piece ≡ min most (length left)) × (0 < length piece)
NextPiece most left (Some (Err e)) later = IsMemory e × (later ≡ left)

-- a piece that isn't empty, and what comes later
abbrev pub IsCut : List ℕ → List ℕ → List ℕ → Type 0
IsCut left piece later = (left ≡ piece ++ later) × (0 < length piece)

-- what may come where these bytes are left
abbrev pub CutsNow : List ℕ → Option Item → Type 0
CutsNow left None = left ≡ []
CutsNow left (Some (Ok piece)) = (later : List ℕ) × IsCut left piece later
CutsNow left (Some (Err e)) = IsMemory e

-- the bytes, cut in pieces, none of them empty. An error for want of memory may stand between two
abbrev pub Cuts : List ℕ → List Item → Option Item → Type 0
Cuts left [] last = CutsNow left last
Cuts left (Ok piece ∷ xs) last = (later : List ℕ) × IsCut left piece later × Cuts later xs last
Cuts left (Err e ∷ xs) last = IsMemory e × Cuts left xs last

-- the file, if there is one, cut in pieces
abbrev pub CutsFile : Option (List ℕ) → List Item → Option Item → Type 0
CutsFile file xs last = IsSomeAnd file (λ bytes. Cuts bytes xs last)

-- there is no file at the URL of this text, or there was no memory
abbrev pub RefusesFile : Option (List ℕ) → List ℕ → TransportError → Type 0
RefusesFile file url e = IsMemory e
    ⊎ ((file ≡ None) × (error_kind e ≡ FileNotFound) × (error_url e ≡ url) × (error_cause e ≡ None))
