-- A transport that serves files under names.
use Rattle.std.specs.Prelude.{◌≡◌, ◌⊎◌, ◌<◌, ◌+◌, ◌^◌, ℕ, List, length, Option, Some, None, Ok, ⊤}
use Rattle.url.specs.Parts.{Parts, serialize}
use Rattle.url.specs.Parser.{parse_url}
use Rattle.futures.specs.Runs.{Runs, Within}
use Rattle.tough_net.specs.declared.error.TransportError.{TransportError}
use Rattle.tough_net.specs.declared.error.TransportErrorKind.TheVariants.{FileNotFound}
use Rattle.tough_net.specs.Errors.{IsMemory, error_kind}
use Rattle.tough_net.specs.Items.{Item}
use Rattle.tough_net.specs.MemoryFiles.{CutsFile}
use Rattle.tough_trust.specs.declared.fault.Fault.{Fault}
use Rattle.tough_trust.specs.declared.fault.Fault.TheVariants as fault
use Rattle.tough_update.specs.Answered.{AnswerDoc}
use Rattle.tough_update.specs.Answered as got

-- the name can be joined, and at that URL the transport serves the file, if there is one, and else refuses
pub record ServesName {T : Type 0} (refuses : T → Parts → TransportError → Type 0) (serves : T → Parts → Runs Item) (t : T) (base : Parts)
    (name : List ℕ) (file : Option (List ℕ)) : Type 0 where
  pub url : Parts
  pub joined : parse_url (Some base) name ≡ Ok url
  -- so that their URL can't come to 4 GB
  pub short : length (serialize base) + length name < 2 ^ 30
  pub refused : (e : TransportError) → refuses t url e → IsMemory e ⊎ ((file ≡ None) × (error_kind e ≡ FileNotFound))
  pub served : Within (CutsFile file) (serves t url)

-- no request for memory was refused
abbrev pub FaultHasMemory : Fault → Type 0
FaultHasMemory (fault.JoinUrl e) = ⊤
FaultHasMemory (fault.Transport e) = IsMemory e → ⊥

abbrev pub HasMemory : AnswerDoc → Type 0
HasMemory (got.Moment now) = ⊤
HasMemory (got.Stored r) = ⊤
HasMemory (got.Bytes bytes) = ⊤
HasMemory (got.NotStarted f) = FaultHasMemory f
HasMemory (got.Cut f) = FaultHasMemory f
HasMemory (got.Step r) = ⊤
