-- When a resource that is fetched over HTTP is asked for again.
use Rattle.std.specs.Prelude.{ℕ, ◌+◌, ◌*◌, ◌/◌, ◌^◌, Bool, true, false, ◌&&◌, ◌||◌, ◌==◌, nat_lt, nat_le, if◌then◌else◌}
use Rattle.std.specs.Duration.{as_nanos}
use Rattle.tough_net.specs.declared.http_error.HttpError.{HttpError}
use Rattle.tough_net.specs.declared.http_error.HttpError.TheVariants.{FetchFileNotFound, FetchFatal, FetchNoMoreRetries}
use Rattle.tough_net.specs.declared.http_error.LastRequest.{LastRequest}
use Rattle.tough_net.specs.declared.http_error.LastRequest.TheVariants.{Status, TooLong}
use Rattle.tough_net.specs.declared.http_error.RequestError.{RequestError}
use Rattle.tough_net.specs.declared.retry_events.AnswerClass.{AnswerClass}
use Rattle.tough_net.specs.declared.retry_events.AnswerClass.TheVariants.{Body, Missing, Refused, Unready}
use Rattle.tough_net.specs.declared.retry_events.RetryEvent.{RetryEvent}
use Rattle.tough_net.specs.declared.retry_events.RetryEvent.TheVariants.{Fault, Answer, Piece, End}
use Rattle.tough_net.specs.declared.retry_events.RetryAction.{RetryAction}
use Rattle.tough_net.specs.declared.retry_events.RetryAction.TheVariants.{Request, Read, Finish, Fail}
use Rattle.tough_net.specs.declared.retry_events.RetrySettings.{RetrySettings}

-- an answer's class by its status code, RFC 9110, section 15, where the request was from this byte on
abbrev pub class_of : ℕ → ℕ → AnswerClass
class_of status from =
    if nat_le 200 status && nat_lt status 300
    then (if from == 0 || status == 206 then Body else Refused)
    else if status == 403 || (status == 404 || status == 410)
    then Missing
    else if nat_le 500 status && nat_lt status 600
    then Unready
    else Refused

-- how far a fetch has come: the bytes handed out, the retries made, the pause before the next request in nanoseconds, whether some
-- answer with a body accepts ranges of bytes, and whether the fetch is over
pub record Progress : Type 0 where
  pub received : ℕ
  pub retries : ℕ
  pub pause : ℕ
  pub is_ranged : Bool
  pub is_over : Bool

-- what is told of a fetch whose last request came to this
abbrev pub told : Progress → LastRequest → RequestError
told p last = record { requests = p.retries + 1; received = p.received; last = last }

pub record Turn : Type 0 where
  pub progress : Progress
  pub action : RetryAction

module _ (s : RetrySettings) where
  abbrev pub started : Progress
  started = record { received = 0; retries = 0; pause = as_nanos s.initial_backoff; is_ranged = false; is_over = false }

  -- the pause that follows a pause: the product, rounded down, where it is below the greatest, which stands for greater ones
  abbrev pub next_pause : ℕ → ℕ
  next_pause pause =
      let product = pause * s.numerator / s.denominator in
      if nat_lt product (as_nanos s.max_backoff)
      then product
      else if nat_lt (as_nanos s.max_backoff) product
      then as_nanos s.max_backoff
      else pause

  -- the fetch is over, with an error
  abbrev pub failed : Progress → HttpError → Turn
  failed p error = record { progress = record p { is_over = true }; action = Fail error }

  -- one more request, if one is left and can ask for the bytes that are missing. The first retry pauses as the first request did
  abbrev pub retried : Progress → LastRequest → Turn
  retried p last =
      if nat_lt p.retries s.tries && (p.received == 0 || p.is_ranged)
      then record {
        progress = record p { retries = p.retries + 1; pause = if p.retries == 0 then p.pause else next_pause p.pause };
        action = Request;
      }
      else failed p (FetchNoMoreRetries s.tries (told p last))

  -- what an answer of this class leads to, whose status code is this
  abbrev pub answered : Progress → ℕ → Bool → AnswerClass → Turn
  answered p status accepts_ranges Body = record { progress = record p { is_ranged = p.is_ranged || accepts_ranges }; action = Read }
  answered p status accepts_ranges Missing = failed p (FetchFileNotFound (told p (Status status)))
  answered p status accepts_ranges Refused = failed p (FetchFatal (told p (Status status)))
  answered p status accepts_ranges Unready = retried p (Status status)

  -- what follows an event of a fetch that isn't over
  abbrev pub turned : Progress → RetryEvent → Turn
  turned p (Fault fault) = retried p (LastRequest.Fault fault)
  turned p (Answer status accepts_ranges) = answered p status accepts_ranges (class_of status p.received)
  turned p (Piece len) =
      if nat_lt (p.received + len) (2 ^ 64)
      then record { progress = record p { received = p.received + len }; action = Read }
      else failed p (FetchFatal (told p TooLong))
  turned p End = record { progress = record p { is_over = true }; action = Finish }

  -- what follows an event. After its end a fetch stays as it is
  abbrev pub turn : Progress → RetryEvent → Turn
  turn p event = if p.is_over then record { progress = p; action = Finish } else turned p event
