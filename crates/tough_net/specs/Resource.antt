-- A resource that comes by parts.
use Rattle.std.specs.Prelude.{◌≡◌, ℕ, ◌+◌, false, List, [], ◌∷◌, ◌++◌, drop, length, Option, Some, None, Ok, Err, ◌⊎◌}
use Rattle.futures.specs.Runs.{Runs, Ends}
use Rattle.tough_net.specs.declared.error.TransportError.{TransportError}
use Rattle.tough_net.specs.declared.error.TransportErrorKind.{TransportErrorKind}
use Rattle.tough_net.specs.declared.error.TransportErrorKind.TheVariants.{FileNotFound, Other}
use Rattle.tough_net.specs.declared.http_error.HttpError.{HttpError}
use Rattle.tough_net.specs.declared.http_error.HttpError.TheVariants.{FetchFileNotFound, FetchFatal, FetchNoMoreRetries, HttpClient, InvalidHeader, RequestBuild, TlsBuildError}
use Rattle.tough_net.specs.declared.http_error.LastRequest.{LastRequest}
use Rattle.tough_net.specs.declared.http_error.LastRequest.TheVariants as last
use Rattle.tough_net.specs.declared.http_error.RequestFault.{RequestFault}
use Rattle.tough_net.specs.declared.http_error.RequestFault.TheVariants.{Cut}
use Rattle.tough_net.specs.declared.error.Cause.{Cause}
use Rattle.tough_net.specs.declared.error.Cause.TheVariants.{Http}
use Rattle.tough_net.specs.declared.retry_events.RetryAction.TheVariants.{Fail}
use Rattle.tough_net.specs.declared.retry_events.RetryEvent.{RetryEvent}
use Rattle.tough_net.specs.declared.retry_events.RetryEvent.TheVariants.{Fault, Answer, Piece, End}
use Rattle.tough_net.specs.declared.retry_events.RetrySettings.{RetrySettings}
use Rattle.tough_net.specs.Errors.{IsMemory, error_kind, error_url, error_cause}
use Rattle.tough_net.specs.Items.{Item, joined, all_bytes}
use Rattle.tough_net.specs.Retries.{Progress, turn}

abbrev pub IsBeginning : List ℕ → List ℕ → Type 0
IsBeginning xs ys = (later : List ℕ) × (ys ≡ xs ++ later)

abbrev pub kind_of_http : HttpError → TransportErrorKind
kind_of_http (FetchFileNotFound _) = FileNotFound
kind_of_http (FetchFatal _) = Other
kind_of_http (FetchNoMoreRetries _ _) = Other
kind_of_http HttpClient = Other
kind_of_http InvalidHeader = Other
kind_of_http RequestBuild = Other
kind_of_http TlsBuildError = Other

-- this fault of HTTP at this URL
abbrev pub IsHttpFault : List ℕ → HttpError → TransportError → Type 0
IsHttpFault url error e = (error_kind e ≡ kind_of_http error) × (error_url e ≡ url) × (error_cause e ≡ Some (Http error))

-- the fault of a request that came to this
abbrev pub fault_by : LastRequest → RequestFault
fault_by (last.Fault fault) = fault
fault_by (last.Status status) = Cut
fault_by last.TooLong = Cut

abbrev pub fault_in : Option Cause → RequestFault
fault_in None = Cut
fault_in (Some (Http (FetchFatal source))) = fault_by source.last
fault_in (Some other) = Cut

-- the fault that a body's error tells, as its cause; where it tells none, the body was cut
abbrev pub fault_of : TransportError → RequestFault
fault_of e = fault_in (error_cause e)

module _ {Q : Type 0} (bodies : Q → ℕ → Runs Item) where
  -- each body is a beginning of the resource, from the byte that was asked for
  abbrev pub IsHonest : Q → List ℕ → Type 0
  IsHonest q resource = (n : ℕ) (xs : List Item) (last : Option Item) → bodies q n xs last → IsBeginning (all_bytes xs last) (drop n resource)

  -- where bodies are honest, what comes is a beginning of the resource from this byte
  abbrev pub Continues : Q → ℕ → Runs Item
  Continues q received xs last = (resource : List ℕ) → IsHonest q resource → IsBeginning (all_bytes xs last) (drop received resource)

  -- Some body gave items that came to this byte, and then this one more answer.
  pub record Gave (q : Q) (at : ℕ) (last : Option Item) : Type 0 where
    pub from : ℕ
    pub items : List Item
    pub gave : bodies q from items last
    pub reached : from + length (joined items) ≡ at

module _ {Q : Type 0} (bodies : Q → ℕ → Runs Item) (answers : Q → ℕ → RetryEvent → Type 0) where
  -- What may happen to a fetch that has come to this byte: a request comes to that, or a body breaks off, which tells why. Pieces and
  -- ends are told by `Follows`.
  abbrev pub Happens : Q → ℕ → RetryEvent → Type 0
  Happens q at (Fault fault) = answers q at (Fault fault) ⊎ ((e : TransportError) × (fault ≡ fault_of e) × Gave bodies q at (Some (Err e)))
  Happens q at (Answer status accepts) = answers q at (Answer status accepts)
  Happens q at (Piece len) = ⊥
  Happens q at End = ⊥

  -- what may happen to it, or a piece of a body that may come
  abbrev pub MayMeet : Q → ℕ → RetryEvent → Type 0
  MayMeet q at (Fault fault) = Happens q at (Fault fault)
  MayMeet q at (Answer status accepts) = Happens q at (Answer status accepts)
  MayMeet q at (Piece len) = (piece : List ℕ) × Gave bodies q at (Some (Ok piece)) × (length piece ≡ len)
  MayMeet q at End = ⊥

  module _ (s : RetrySettings) where
    -- a fault of HTTP is what the rule answers to something that a fetch which has come so far may meet
    abbrev pub WasSo : Q → Progress → HttpError → Type 0
    WasSo q p error = (event : RetryEvent) × MayMeet q p.received event × ((turn s p event).action ≡ Fail error)

    -- an error that a fetch which has come so far may end with: what it says was so, or there was no memory
    abbrev pub IsFetchFault : Q → List ℕ → Progress → TransportError → Type 0
    IsFetchFault q url p e = IsMemory e ⊎ ((error : HttpError) × IsHttpFault url error e × WasSo q p error)

    -- these events may happen one after the other, none of which ends the fetch, and bring it from p to r
    abbrev pub Leads : Q → Progress → List RetryEvent → Progress → Type 0
    Leads q p [] r = r ≡ p
    Leads q p (event ∷ events) r =
        Happens q p.received event × ((turn s p event).progress.is_over ≡ false) × Leads q (turn s p event).progress events r

    -- What follows where a body is being read, or where the fetch fails: the end and each piece come where a body has them, and each
    -- error where what it says was so. Nothing comes after an error.
    abbrev pub Follows : Q → List ℕ → Progress → Runs Item
    Follows q url p [] None = Gave bodies q p.received None
    Follows q url p [] (Some (Ok piece)) = Gave bodies q p.received (Some (Ok piece))
    Follows q url p [] (Some (Err e)) = IsFetchFault q url p e
    Follows q url p (Ok piece ∷ xs) last = Gave bodies q p.received (Some (Ok piece))
        × ((events : List RetryEvent) × (r : Progress) × Leads q (record p { received = p.received + length piece }) events r × Follows q url r xs last)
    Follows q url p (Err e ∷ xs) last = IsFetchFault q url p e × Ends xs last

    -- the same, after some events
    abbrev pub Tells : Q → List ℕ → Progress → Runs Item
    Tells q url p xs last = (events : List RetryEvent) × (r : Progress) × Leads q p events r × Follows q url r xs last

    -- what a fetch that has come so far yields: a beginning of the resource, whose end and whose errors are as told
    pub record Fetches (q : Q) (url : List ℕ) (p : Progress) (xs : List Item) (last : Option Item) : Type 0 where
      pub continues : Continues bodies q p.received xs last
      pub tells : Tells q url p xs last
