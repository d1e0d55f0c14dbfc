-- What transport errors say.
use Rattle.std.specs.Prelude.{◌≡◌, ℕ, Option, None, List, [], ◌⊎◌, string_bytes, IsSomeAnd}
use Rattle.std.specs.Option.{option_map_or}
use Rattle.hex.specs.Hex.{encode_lower}
use Rattle.tough_net.specs.declared.error.TransportError.{TransportError}
use Rattle.tough_net.specs.declared.error.TransportErrorKind.{TransportErrorKind}
use Rattle.tough_net.specs.declared.error.TransportErrorKind.TheVariants.{Other, Memory}
use Rattle.tough_net.specs.declared.error.Cause.{Cause}
use Rattle.tough_net.specs.declared.error.Cause.TheVariants.{MaxSizeExceeded, HashMismatch, Http, Text}

abbrev pub error_kind : TransportError → TransportErrorKind
error_kind e = e.kind

-- the text of the URL, empty where there is none
abbrev pub error_url : TransportError → List ℕ
error_url e = option_map_or string_bytes e.url []

abbrev pub error_cause : TransportError → Option Cause
error_cause e = e.cause

-- a request for memory was refused
abbrev pub IsMemory : TransportError → Type 0
IsMemory e = (error_kind e ≡ Memory) × (error_url e ≡ []) × (error_cause e ≡ None)

-- an error of kind `Other` at this URL whose cause is as said, or there was no memory for that error
abbrev pub IsOther : List ℕ → (Cause → Type 0) → TransportError → Type 0
IsOther url says e = ((error_kind e ≡ Other) × (error_url e ≡ url) × IsSomeAnd (error_cause e) says) ⊎ IsMemory e

abbrev pub SaysExceeded : ℕ → List ℕ → Cause → Type 0
SaysExceeded max specifier (MaxSizeExceeded m s) = (m ≡ max) × (s.now ≡ specifier)
SaysExceeded max specifier (HashMismatch _ _ _) = ⊥
SaysExceeded max specifier (Http _) = ⊥
SaysExceeded max specifier (Text _) = ⊥

abbrev pub SaysMismatch : List ℕ → List ℕ → List ℕ → Cause → Type 0
SaysMismatch url expected calculated (MaxSizeExceeded _ _) = ⊥
SaysMismatch url expected calculated (HashMismatch u c e) =
    (string_bytes u ≡ url) × (string_bytes c ≡ encode_lower calculated) × (string_bytes e ≡ encode_lower expected)
SaysMismatch url expected calculated (Http _) = ⊥
SaysMismatch url expected calculated (Text _) = ⊥

-- the limit was passed
abbrev pub IsExceeded : List ℕ → ℕ → List ℕ → TransportError → Type 0
IsExceeded url max specifier = IsOther url (SaysExceeded max specifier)

-- the bytes don't have the digest
abbrev pub IsMismatch : List ℕ → List ℕ → List ℕ → TransportError → Type 0
IsMismatch url expected calculated = IsOther url (SaysMismatch url expected calculated)
