-- The stream of a resource that is asked for again.
use Rattle.std.specs.Prelude.{◌≡◌, ℕ, ◌+◌, ◌≤◌, false, List, [], ◌++◌, length, Option, Some, Result, Err, IfSome, IfOk, IfErr, OnSome, ⊤, ◌⊎◌}
use Rattle.std.specs.Duration.{as_nanos}
use Rattle.std.specs.declared.time.Duration.{Duration}
use Rattle.futures.specs.Poll.{OnPending, IfReady}
use Rattle.futures.specs.Runs.{Runs, After, Within, Ends}
use Rattle.futures.specs.Task.{IsArmed, Keeps}
use Rattle.futures.specs.declared.task.Poll.{Poll}
use Rattle.futures.specs.declared.task.context.Context.{Context}
use Rattle.tough_net.specs.declared.error.TransportError.{TransportError}
use Rattle.tough_net.specs.declared.http_error.HttpError.{HttpError}
use Rattle.tough_net.specs.declared.http_error.RequestFault.{RequestFault}
use Rattle.tough_net.specs.declared.retry_events.AnswerClass.TheVariants.{Body}
use Rattle.tough_net.specs.declared.retry_events.RetryAction.{RetryAction}
use Rattle.tough_net.specs.declared.retry_events.RetryAction.TheVariants.{Request, Read, Finish, Fail}
use Rattle.tough_net.specs.declared.retry_events.RetryEvent.{RetryEvent}
use Rattle.tough_net.specs.declared.retry_events.RetryEvent.TheVariants.{Fault, Answer}
use Rattle.tough_net.specs.declared.retry_events.RetrySettings.{RetrySettings}
use Rattle.tough_net.specs.declared.requests.Response.{Response}
use Rattle.tough_net.specs.declared.retrying.State.{State}
use Rattle.tough_net.specs.declared.retrying.State.TheVariants.{Pausing, Connecting, Asking, Reading, Ended}
use Rattle.tough_net.specs.Errors.{IsMemory}
use Rattle.tough_net.specs.Items.{Item, joined}
use Rattle.tough_net.specs.Resource.{Continues, Fetches, IsHttpFault}
use Rattle.tough_net.specs.Retries.{Progress, class_of}

-- The contract of a poll, by what may come before it and after it, and by whether it may be polled again.
pub record Goes (before after : Runs Item) (stands : Type 0) (old new : Context) (result : Poll (Option Item)) : Type 0 where
  pub value : IfReady result (before [])
  pub rest : IfReady result (λ o. IfSome o (λ x. After before x after))
  pub goes : IfReady result (λ o. OnSome o stands)
  pub again : OnPending result stands
  pub same : OnPending result (Within before after)
  pub armed : OnPending result (IsArmed new)
  pub kept : Keeps old new

-- an action that reads nothing on and doesn't finish
abbrev pub CanAct : RetryAction → Type 0
CanAct Request = ⊤
CanAct Read = ⊥
CanAct Finish = ⊥
CanAct (Fail _) = ⊤

-- why an action ends a fetch with an error: it fails, or there was no memory
abbrev pub EndsBy : List ℕ → RetryAction → TransportError → Type 0
EndsBy url action e = IsMemory e ⊎ ((error : HttpError) × (action ≡ Fail error) × IsHttpFault url error e)

-- the requests that are sent where this is under way, beside those of the retries before
abbrev pub asked_in : {P N A C B : Type 0} → State P N A C B → ℕ
asked_in (Pausing _) = 0
asked_in (Connecting _) = 0
asked_in (Asking _) = 1
asked_in (Reading _) = 1
asked_in Ended = 1

-- No more retries were made than there are tries, and no more requests sent than one for each before and these.
pub record IsCounted (s : RetrySettings) (made : ℕ) (p : Progress) (asked : ℕ) : Type 0 where
  pub few : p.retries ≤ s.tries
  pub sent : made ≤ p.retries + asked

module _ {Q : Type 0} (bodies : Q → ℕ → Runs Item) where
  -- source is the rest of a body that has come to this byte
  pub record Reads (q : Q) (at : ℕ) (source : Runs Item) : Type 0 where
    pub from : ℕ
    pub items : List Item
    pub reached : from + length (joined items) ≡ at
    pub gives : (xs : List Item) (last : Option Item) → source xs last → bodies q from (items ++ xs) last

module _ {Q : Type 0} (bodies : Q → ℕ → Runs Item) (answers : Q → ℕ → RetryEvent → Type 0) where
  module _ {B : Type 0} (can_read : B → Type 0) (yields : B → Runs Item) where
    -- an answer that may come, whose body may be read, and is one from this byte if the answer is what was asked for
    pub record IsReadable (q : Q) (at : ℕ) (r : Response B) : Type 0 where
      pub can : can_read r.body
      pub answers_so : answers q at (Answer r.status r.accepts_ranges)
      pub body : class_of r.status at ≡ Body → Within (bodies q at) (yields r.body)

  module _ {P N A C B S : Type 0} (can_pause : P → Type 0) (lasts : P → Duration → Type 0) (can_connect : N → Type 0) (connects : N → Result S RequestFault → Type 0) (can_run : C → Type 0) (can_ask : A → Type 0) (gives : A → Result (Response B) RequestFault → Type 0) (can_read : B → Type 0) (yields : B → Runs Item) where
    -- what is under way may be polled, is for the byte that is missing next, and pauses as the rule says
    abbrev pub IsUnderWay : Q → Progress → State P N A C B → Type 0
    IsUnderWay q p (Pausing pause) = can_pause pause × ((o : Duration) → lasts pause o → as_nanos o ≡ p.pause)
    IsUnderWay q p (Connecting n) = can_connect n × ((o : Result S RequestFault) → connects n o → IfErr o (λ fault. answers q p.received (Fault fault)))
    IsUnderWay q p (Asking e) = IfSome e.conn can_run × can_ask e.body
        × ((o : Result (Response B) RequestFault) → gives e.body o
        → IfOk o (IsReadable can_read yields q p.received) × IfErr o (λ fault. answers q p.received (Fault fault)))
    IsUnderWay q p (Reading e) = IfSome e.conn can_run × can_read e.body
        × Within (Continues bodies q p.received) (yields e.body) × Reads bodies q p.received (yields e.body)
    IsUnderWay q p Ended = ⊤

    -- the same, of a fetch that isn't over or has ended
    abbrev pub MayGoOn : Q → Progress → State P N A C B → Type 0
    MayGoOn q p Ended = ⊤
    MayGoOn q p state = (p.is_over ≡ false) × IsUnderWay q p state

    -- the same, of which so many requests were sent: no more than the rule asked for
    abbrev pub StandsWell : RetrySettings → Q → ℕ → Progress → State P N A C B → Type 0
    StandsWell s q sent p state = IsCounted s sent p (asked_in state) × MayGoOn q p state

  -- a stream that has ended yields nothing, and any other what its fetch does
  abbrev pub Yields : {P N A C B : Type 0} → RetrySettings → Q → List ℕ → Progress → State P N A C B → Runs Item
  Yields s q url p Ended = Ends
  Yields s q url p state = Fetches bodies answers s q url p

module _ {P N A C B : Type 0} (can_pause : P → Type 0) (lasts : P → Duration → Type 0) where
  -- What an action leads to: this pause before one more request, or an error, with which the stream ends.
  pub record Acts (url : List ℕ) (nanos : ℕ) (action : RetryAction) (state : State P N A C B) (old new : Context) (result : Poll (Option Item)) : Type 0 where
    pub pauses : OnPending result ((action ≡ Request) × IsArmed new
        × ((pause : P) × (can_pause pause × ((o : Duration) → lasts pause o → as_nanos o ≡ nanos)) × (state ≡ Pausing pause)))
    pub ends : IfReady result (λ o. (e : TransportError) × (o ≡ Some (Err e)) × (state ≡ Ended) × EndsBy url action e)
    pub kept : Keeps old new
