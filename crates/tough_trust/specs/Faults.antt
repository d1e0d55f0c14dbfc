-- A fetch that gave no bytes (TUF specification 1.0, section 5.3.3).
use Rattle.std.specs.Prelude.{ℕ, List, Bool, true, false, not}
use Rattle.url.specs.declared.error.ParseError.TheVariants as url
use Rattle.tough_net.specs.declared.error.TransportError.{TransportError}
use Rattle.tough_net.specs.declared.error.TransportErrorKind.{TransportErrorKind}
use Rattle.tough_net.specs.declared.error.TransportErrorKind.TheVariants as kind
use Rattle.tough_net.specs.Errors.{error_kind}
use Rattle.tough_trust.specs.declared.fault.Fault.{Fault}
use Rattle.tough_trust.specs.declared.fault.Fault.TheVariants as fault
use Rattle.tough_trust.specs.Failure.{Failure, JoinUrl, Transport, Memory}

-- what a transport told, where memory wasn't wanting
abbrev pub told : TransportErrorKind → TransportError → Failure
told kind.Memory e = Memory
told _ e = Transport e

-- what the fault is, where the file of this name is needed
abbrev pub fault_failure : List ℕ → Fault → Failure
fault_failure name (fault.JoinUrl url.OutOfMemory) = Memory
fault_failure name (fault.JoinUrl e) = JoinUrl name e
fault_failure name (fault.Transport e) = told (error_kind e) e

abbrev pub is_memory : TransportErrorKind → Bool
is_memory kind.Memory = true
is_memory _ = false

abbrev pub is_missing : TransportErrorKind → Bool
is_missing kind.FileNotFound = true
is_missing _ = false

-- any error of starting to fetch a root ends the walk, save want of memory and a name that can't be joined
abbrev pub ends_start : Fault → Bool
ends_start (fault.JoinUrl e) = false
ends_start (fault.Transport e) = not (is_memory (error_kind e))

-- a root that the stream doesn't find ends the walk
abbrev pub ends_stream : Fault → Bool
ends_stream (fault.JoinUrl e) = false
ends_stream (fault.Transport e) = is_missing (error_kind e)
