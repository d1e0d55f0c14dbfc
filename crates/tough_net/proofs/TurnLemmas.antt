-- What a turn of a fetch counts.
use Rattle.std.specs.Prelude.{◌≡◌, ℕ, ◌+◌, Bool, true, false, if◌then◌else◌}
use Rattle.std.proofs.Common.{refl, ap, ◌∙◌}
use Rattle.std.proofs.lemmas.Bool.{cond-false}
use Rattle.tough_net.specs.declared.http_error.HttpError.{HttpError}
use Rattle.tough_net.specs.declared.http_error.LastRequest.{LastRequest}
use Rattle.tough_net.specs.declared.http_error.LastRequest.TheVariants.{Status}
use Rattle.tough_net.specs.declared.http_error.RequestFault.{RequestFault}
use Rattle.tough_net.specs.declared.retry_events.RetrySettings.{RetrySettings}
use Rattle.tough_net.specs.declared.retry_events.RetryEvent.TheVariants.{Fault, Answer, Piece}
use Rattle.tough_net.specs.declared.retry_events.RetryAction.TheVariants.{Read, Finish, Fail}
use Rattle.tough_net.specs.declared.retry_events.AnswerClass.{AnswerClass}
use Rattle.tough_net.specs.declared.retry_events.AnswerClass.TheVariants.{Body, Missing, Refused, Unready}
use Rattle.tough_net.specs.Retries.{Progress, Turn, class_of, retried, answered, turned, turn}

abbrev chosen : Bool → Progress → Progress → HttpError → Turn
chosen b q r error = if b then record { progress = q; action = Read } else record { progress = r; action = Fail error }

counted : (b : Bool) (q r : Progress) (error : HttpError) (n : ℕ)
    → (chosen b q r error).action ≡ Read → q.received ≡ n
    → (chosen b q r error).progress.received ≡ n
counted true q r error n e first = first
counted false q r error n e first = cc

over : (b : Bool) (p : Progress) (u : Turn) (n : ℕ) → (if b then record { progress = p; action = Finish } else u).action ≡ Read
    → (u.action ≡ Read → u.progress.received ≡ n) → (if b then record { progress = p; action = Finish } else u).progress.received ≡ n
over true p u n e second = cc
over false p u n e second = second e

unread_chosen : (b : Bool) (q r : Progress) (error : HttpError) (n : ℕ) → ¬ ((chosen b q r error).action ≡ Read) → r.received ≡ n → (chosen b q r error).progress.received ≡ n
unread_chosen true q r error n unread second = absurd (unread refl)
unread_chosen false q r error n unread second = second

over_unread : (b : Bool) (p : Progress) (u : Turn) (n : ℕ) → ¬ ((if b then record { progress = p; action = Finish } else u).action ≡ Read)
    → p.received ≡ n → (¬ (u.action ≡ Read) → u.progress.received ≡ n) → (if b then record { progress = p; action = Finish } else u).progress.received ≡ n
over_unread true p u n unread first second = first
over_unread false p u n unread first second = second unread

-- a piece that is handed on is counted
pub piece_received : (s : RetrySettings) (p : Progress) (len : ℕ) → (turn s p (Piece len)).action ≡ Read → (turn s p (Piece len)).progress.received ≡ p.received + len
piece_received s p len e = over p.is_over p (turned s p (Piece len)) (p.received + len) e (λ h. counted _ _ _ _ _ h refl)

if_received : (b : Bool) (t u : Turn) (n : ℕ) → t.progress.received ≡ n → u.progress.received ≡ n → (if b then t else u).progress.received ≡ n
if_received true t u n first second = first
if_received false t u n first second = second

module _ (s : RetrySettings) (p : Progress) where
  retried_received : (last : LastRequest) → (retried s p last).progress.received ≡ p.received
  retried_received last = if_received _ _ _ p.received refl refl

  answered_received : (status : ℕ) (accepts : Bool) (class : AnswerClass) → (answered s p status accepts class).progress.received ≡ p.received
  answered_received status accepts Body = refl
  answered_received status accepts Missing = refl
  answered_received status accepts Refused = refl
  answered_received status accepts Unready = retried_received (Status status)

  -- no answer is counted, and no piece that isn't handed on
  pub answer_received : (status : ℕ) (accepts : Bool) → (turn s p (Answer status accepts)).progress.received ≡ p.received
  answer_received status accepts = if_received p.is_over _ _ p.received refl (answered_received status accepts (class_of status p.received))

  pub unread_received : (len : ℕ) → ¬ ((turn s p (Piece len)).action ≡ Read) → (turn s p (Piece len)).progress.received ≡ p.received
  unread_received len unread = over_unread p.is_over p (turned s p (Piece len)) p.received unread refl (λ h. unread_chosen _ _ _ _ _ h refl)

  -- a fault counts nothing
  pub fault_received : (fault : RequestFault) → (turn s p (Fault fault)).progress.received ≡ p.received
  fault_received fault = if_received p.is_over _ _ p.received refl (retried_received (LastRequest.Fault fault))

  counts : (b : Bool) (q r : Progress) (error : HttpError) → (chosen b q r error).action ≡ Read → (chosen b q r error).progress ≡ q
  counts true q r error e = refl
  counts false q r error e = cc

  -- a piece that is handed on changes the count alone
  pub piece_counts : (len : ℕ) → p.is_over ≡ false → (turn s p (Piece len)).action ≡ Read → (turn s p (Piece len)).progress ≡ record p { received = p.received + len }
  piece_counts len on e =
      let is : turn s p (Piece len) ≡ turned s p (Piece len) = cond-false p.is_over _ _ on in
      ap (λ t. t.progress) is ∙ counts _ _ _ _ (rw is at e)
