-- What each event of a fetch leads to, and what a poll owes after it.
use Rattle.std.specs.Prelude.{◌≡◌, ℕ, Bool, true, false, if◌then◌else◌, List, [], length, Option, Some, None, Ok, Err}
use Rattle.std.proofs.Common.{inl, inr, refl, rules, sym, ◌∙◌, ap}
use Rattle.std.proofs.lemmas.Bool.{cond-false}
use Rattle.futures.specs.Runs.{Runs, After, Within}
use Rattle.futures.specs.Task.{IsArmed, Keeps}
use Rattle.futures.specs.declared.task.Poll.{Poll}
use Rattle.futures.specs.declared.task.Poll.TheVariants.{Ready, Pending}
use Rattle.futures.specs.declared.task.context.Context.{Context}
use Rattle.tough_net.specs.declared.http_error.HttpError.{HttpError}
use Rattle.tough_net.specs.declared.http_error.HttpError.TheVariants.{FetchFatal, FetchNoMoreRetries}
use Rattle.tough_net.specs.declared.error.TransportError.{TransportError}
use Rattle.std.specs.declared.time.Duration.{Duration}
use Rattle.std.specs.Duration.{as_nanos}
use Rattle.std.specs.Prelude.{Result, IfErr}
use Rattle.tough_net.specs.declared.http_error.LastRequest.{LastRequest}
use Rattle.tough_net.specs.declared.http_error.LastRequest.TheVariants.{Status, TooLong}
use Rattle.tough_net.specs.declared.http_error.RequestFault.{RequestFault}
use Rattle.tough_net.specs.declared.retry_events.AnswerClass.{AnswerClass}
use Rattle.tough_net.specs.declared.retry_events.AnswerClass.TheVariants.{Body, Missing, Refused, Unready}
use Rattle.tough_net.specs.declared.retry_events.RetryEvent.{RetryEvent}
use Rattle.tough_net.specs.declared.retry_events.RetryEvent.TheVariants.{Fault, Answer, Piece, End}
use Rattle.tough_net.specs.declared.retry_events.RetryAction.{RetryAction}
use Rattle.tough_net.specs.declared.retry_events.RetryAction.TheVariants.{Request, Read, Finish, Fail}
use Rattle.tough_net.specs.declared.retry_events.RetrySettings.{RetrySettings}
use Rattle.tough_net.specs.declared.retrying.State.{State}
use Rattle.tough_net.specs.declared.retrying.State.TheVariants.{Pausing, Ended}
use Rattle.tough_net.specs.Items.{Item}
use Rattle.tough_net.specs.Retries.{Progress, Turn, class_of, told, retried, answered, failed, turned, turn}
use Rattle.tough_net.specs.Resource.{Gave, Happens, MayMeet, WasSo, IsFetchFault, Fetches}
use Rattle.tough_net.specs.Retrying.{Goes, Acts, EndsBy, IsCounted, StandsWell, Yields}
use Rattle.tough_net.proofs.PacingLemmas.{turn_asks, turn_counted}
use Rattle.tough_net.specs.declared.requests.Response.{Response}
use Rattle.tough_net.proofs.ResourceLemmas.{Fetches_fault, Fetches-After_fault, Fetches-Within}

-- what a poll owes, where an action was taken
pub Goes_acts : {P N A C B : Type 0} (before : Runs Item) (after : State P N A C B → Runs Item) (stands : State P N A C B → Type 0) (can_pause : P → Type 0) (lasts : P → Duration → Type 0) (url : List ℕ) (nanos : ℕ) (action : RetryAction) (state : State P N A C B) (old new : Context) (result : Poll (Option Item))
    → Acts can_pause lasts url nanos action state old new result → stands Ended
    → ((e : TransportError) → EndsBy url action e → before [] (Some (Err e)) × After before (Err e) (after Ended))
    → (action ≡ Request → (pause : P) → can_pause pause × ((o : Duration) → lasts pause o → as_nanos o ≡ nanos) → stands (Pausing pause) × Within before (after (Pausing pause)))
    → Goes before (after state) (stands state) old new result
Goes_acts before after stands can_pause lasts url nanos action state old new (Ready o) acts ended ends asks =
    let e = acts.ends.0 in
    let is = acts.ends.1 in
    let here = acts.ends.2 in
    let told = ends e acts.ends.3 in
    rw (is, here) (record { value = told.0; rest = told.1; goes = ended; again = search rules; same = search rules; armed = search rules; kept = acts.kept })
Goes_acts before after stands can_pause lasts url nanos action state old new Pending acts ended ends asks =
    let more = asks acts.pauses.0 acts.pauses.2.0 acts.pauses.2.1 in
    rw acts.pauses.2.2 (record { value = search rules; rest = search rules; goes = search rules; again = more.0; same = more.1; armed = acts.pauses.1; kept = acts.kept })

-- whether an action goes on with the fetch
abbrev goes_on : RetryAction → Bool
goes_on Request = true
goes_on Read = true
goes_on Finish = false
goes_on (Fail _) = false

true_fails : (action : RetryAction) (told : HttpError) → goes_on action ≡ true → action ≡ Fail told → ⊥
true_fails Request told going e = cc
true_fails Read told going e = cc
true_fails Finish told going e = cc
true_fails (Fail x) told going e = cc

false_going : false ≡ true → ⊥
false_going e = cc

module _ {Q : Type 0} (bodies : Q → ℕ → Runs Item) (answers : Q → ℕ → RetryEvent → Type 0) (s : RetrySettings) (q : Q) (p : Progress) where
  -- a turn that goes on, or fails so
  abbrev or_fails : Bool → Turn → HttpError → Turn
  or_fails b t error = if b then t else failed s p error

  turn_is : (event : RetryEvent) → p.is_over ≡ false → turn s p event ≡ turned s p event
  turn_is event on = cond-false p.is_over _ _ on

  -- what happened may be met
  meets : (event : RetryEvent) → Happens bodies answers q p.received event → MayMeet bodies answers q p.received event
  meets (Fault fault) happens = happens
  meets (Answer status accepts) happens = happens
  meets (Piece len) happens = absurd happens
  meets End happens = absurd happens

  -- what a fault says was so
  pub was_so : (event : RetryEvent) (error : HttpError) → Happens bodies answers q p.received event
      → (turn s p event).action ≡ Fail error → WasSo bodies answers s q p error
  was_so event error happens e = (event, meets event happens, e)

  pub was_so_piece : (piece : List ℕ) (error : HttpError) → Gave bodies q p.received (Some (Ok piece))
      → (turn s p (Piece (length piece))).action ≡ Fail error → WasSo bodies answers s q p error
  was_so_piece piece error gave e = (Piece (length piece), (piece, gave, refl), e)

  on_or : (b : Bool) (t : Turn) (error : HttpError) → t.progress.is_over ≡ false → goes_on (or_fails b t error).action ≡ true
      → (or_fails b t error).progress.is_over ≡ false
  on_or true t error on going = on
  on_or false t error on going = absurd (false_going going)

  on_retried : (last : LastRequest) → p.is_over ≡ false → goes_on (retried s p last).action ≡ true → (retried s p last).progress.is_over ≡ false
  on_retried last on going = on_or _ _ (FetchNoMoreRetries s.tries (told p last)) on going

  on_answered : (status : ℕ) (accepts : Bool) (class : AnswerClass) → p.is_over ≡ false → goes_on (answered s p status accepts class).action ≡ true
      → (answered s p status accepts class).progress.is_over ≡ false
  on_answered status accepts Body on going = on
  on_answered status accepts Missing on going = absurd (false_going going)
  on_answered status accepts Refused on going = absurd (false_going going)
  on_answered status accepts Unready on going = on_retried (Status status) on going

  on_turned : (event : RetryEvent) → p.is_over ≡ false → goes_on (turned s p event).action ≡ true → (turned s p event).progress.is_over ≡ false
  on_turned (Fault fault) on going = on_retried (LastRequest.Fault fault) on going
  on_turned (Answer status accepts) on going = on_answered status accepts (class_of status p.received) on going
  on_turned (Piece len) on going = on_or _ _ (FetchFatal (told p TooLong)) on going
  on_turned End on going = absurd (false_going going)

  -- a fetch that goes on isn't over
  pub goes_on_over : (event : RetryEvent) (action : RetryAction) → p.is_over ≡ false → goes_on action ≡ true → (turn s p event).action ≡ action → (turn s p event).progress.is_over ≡ false
  goes_on_over event action on going e =
      let is = turn_is event on in
      let here : goes_on (turned s p event).action ≡ true = ap (λ t. goes_on t.action) (sym is) ∙ (ap goes_on e ∙ going) in
      rw is (on_turned event on here)

  unasked_or : (b : Bool) (t : Turn) (error : HttpError) → t.action ≡ Read → (or_fails b t error).action ≡ Request → ⊥
  unasked_or true t error is e = cc
  unasked_or false t error is e = cc

  -- no piece leads to a request
  pub piece_asks : (len : ℕ) → p.is_over ≡ false → (turn s p (Piece len)).action ≡ Request → ⊥
  piece_asks len on e = unasked_or _ _ (FetchFatal (told p TooLong)) refl (rw (turn_is (Piece len) on) at e)

  unread_or : (b : Bool) (t : Turn) (error : HttpError) → t.action ≡ Request → (or_fails b t error).action ≡ Read → ⊥
  unread_or true t error is e = cc
  unread_or false t error is e = cc

  read_answered : (status : ℕ) (accepts : Bool) (class : AnswerClass) → (answered s p status accepts class).action ≡ Read → class ≡ Body
  read_answered status accepts Body e = refl
  read_answered status accepts Missing e = cc
  read_answered status accepts Refused e = cc
  read_answered status accepts Unready e = absurd (unread_or _ _ (FetchNoMoreRetries s.tries (told p (Status status))) refl e)

  -- an answer whose body is read has what was asked for
  pub read_body : (status : ℕ) (accepts : Bool) → p.is_over ≡ false → (turn s p (Answer status accepts)).action ≡ Read → class_of status p.received ≡ Body
  read_body status accepts on e = read_answered status accepts (class_of status p.received) (rw (turn_is (Answer status accepts) on) at e)

  is_fault : (action : RetryAction) (url : List ℕ) (e : TransportError) → ((error : HttpError) → action ≡ Fail error → WasSo bodies answers s q p error)
      → EndsBy url action e → IsFetchFault bodies answers s q url p e
  is_fault action url e was (inl memory) = inl memory
  is_fault action url e was (inr h) = inr (h.0, h.2, was h.0 h.1)

  module _ {P N A C B S : Type 0} (can_pause : P → Type 0) (lasts : P → Duration → Type 0) (can_connect : N → Type 0) (connects : N → Result S RequestFault → Type 0) (can_run : C → Type 0) (can_ask : A → Type 0) (gives : A → Result (Response B) RequestFault → Type 0) (can_read : B → Type 0) (yields : B → Runs Item) (url : List ℕ) (sent : ℕ) where
    -- what a poll owes, where the turn at an event was acted on
    pub Goes_turned : (event : RetryEvent) (state : State P N A C B) (old new : Context) (result : Poll (Option Item)) → p.is_over ≡ false → IsCounted s sent p 1
        → Acts can_pause lasts url (turn s p event).progress.pause (turn s p event).action state old new result
        → ((error : HttpError) → (turn s p event).action ≡ Fail error → WasSo bodies answers s q p error)
        → ((turn s p event).action ≡ Request → Happens bodies answers q p.received event × ((turn s p event).progress.received ≡ p.received))
        → Goes (Fetches bodies answers s q url p) (Yields bodies answers s q url (turn s p event).progress state)
        (StandsWell bodies answers can_pause lasts can_connect connects can_run can_ask gives can_read yields s q sent (turn s p event).progress state) old new result
    Goes_turned event state old new result on counted acts was asks =
        Goes_acts (Fetches bodies answers s q url p) (Yields bodies answers s q url (turn s p event).progress)
        (StandsWell bodies answers can_pause lasts can_connect connects can_run can_ask gives can_read yields s q sent (turn s p event).progress)
        can_pause lasts url (turn s p event).progress.pause (turn s p event).action state old new result acts (turn_counted s sent p event counted, tt)
        (λ e ends.
        let fault = is_fault (turn s p event).action url e was ends in
        (Fetches_fault bodies answers s q url p e fault, Fetches-After_fault bodies answers s q url p e fault))
        (λ is pause can.
        let more = asks is in
        let still = goes_on_over event Request on refl is in
        ((turn_asks s sent p event is counted, (still, can)), Fetches-Within bodies answers s q url p event more.0 still more.1))

-- what a poll owes that comes to nothing yet, or whose answer is another's after it
pub Goes_pending : {before after : Runs Item} {stands : Type 0} {old new : Context} {result : Poll (Option Item)} → result ≡ Pending → stands → Within before after
    → IsArmed new → Keeps old new → Goes before after stands old new result
Goes_pending is can within armed kept =
    rw is (record { value = search rules; rest = search rules; goes = search rules; again = can; same = within; armed = armed; kept = kept })

pub Goes_later : {before after : Runs Item} {stands : Type 0} {old mid new : Context} {result : Poll (Option Item)} → Keeps old mid → Goes before after stands mid new result
    → Goes before after stands old new result
Goes_later kept goes =
    record { value = goes.value; rest = goes.rest; goes = goes.goes; again = goes.again; same = goes.same; armed = goes.armed; kept = (λ fact h. goes.kept fact (kept fact h)) }

pub Goes_piece : {before after : Runs Item} {stands : Type 0} {old new : Context} (piece : List ℕ) → before [] (Some (Ok piece)) → After before (Ok piece) after → stands
    → Keeps old new → Goes before after stands old new (Ready (Some (Ok piece)))
Goes_piece piece value rest can kept = record { value = value; rest = rest; goes = can; again = search rules; same = search rules; armed = search rules; kept = kept }

pub Goes_end : {before after : Runs Item} {stands : Type 0} {old new : Context} → before [] None → Keeps old new → Goes before after stands old new (Ready None)
Goes_end value kept = record { value = value; rest = search rules; goes = search rules; again = search rules; same = search rules; armed = search rules; kept = kept }

-- a fault that may come from each byte may come from this one
pub fault_at : {S : Type 0} (may : RequestFault → ℕ → Type 0) (n : ℕ) (o : Result S RequestFault) → IfErr o (λ fault. (from : ℕ) → may fault from) → IfErr o (λ fault. may fault n)
fault_at may n (Ok x) h = search rules
fault_at may n (Err fault) h = h n
