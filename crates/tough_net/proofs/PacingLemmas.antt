-- How many requests a fetch makes, and after which pauses.
use Rattle.std.specs.Prelude.{◌≡◌, ℕ, ◌+◌, ◌^◌, ◌<◌, ◌≤◌, Bool, true, false, ◌&&◌, ◌||◌, ◌==◌, nat_lt, if◌then◌else◌, List, [], ◌∷◌, length, ◌⊎◌}
use Rattle.std.proofs.Common.{arith, inl, inr, refl, rules, sym, ◌∙◌, ap}
use Rattle.std.proofs.lemmas.Bool.{and_parts, cond_both, ltb-true}
use Rattle.std.proofs.lemmas.Bool.Decides.{nat_tests}
use Rattle.tough_net.specs.declared.retry_events.AnswerClass.{AnswerClass}
use Rattle.tough_net.specs.declared.retry_events.AnswerClass.TheVariants.{Body, Missing, Refused, Unready}
use Rattle.tough_net.specs.declared.retry_events.RetryEvent.{RetryEvent}
use Rattle.tough_net.specs.declared.retry_events.RetryEvent.TheVariants.{Fault, Answer, Piece, End}
use Rattle.tough_net.specs.declared.retry_events.RetryAction.TheVariants.{Request}
use Rattle.tough_net.specs.declared.http_error.LastRequest.{LastRequest}
use Rattle.tough_net.specs.declared.http_error.LastRequest.TheVariants.{Status}
use Rattle.tough_net.specs.declared.retry_events.RetrySettings.{RetrySettings}
use Rattle.tough_net.specs.Retries.{Progress, Turn, class_of, next_pause, started, retried, answered, turned, turn}
use Rattle.tough_net.specs.Retrying.{IsCounted}
use Rattle.tough_net.specs.Pacing.{with_pause, pauses_of, Met, ArePaced, FewAndPaced}

cons_grows : (x : ℕ) (xs : List ℕ) → x ∷ xs ≡ xs → ⊥
cons_grows x xs e =
    let grown : length (x ∷ xs) ≡ length xs = ap length e in
    omega arith

module _ (s : RetrySettings) where
  -- the pause of the next request after the first
  abbrev pause_after : ℕ → ℕ → ℕ
  pause_after retries pause = if retries == 0 then pause else next_pause s pause

  -- one more request, which is left
  abbrev Asks : Progress → Turn → Type 0
  Asks p t = (t.action ≡ Request) × (t.progress.retries ≡ p.retries + 1) × (p.retries < s.tries) × (t.progress.pause ≡ pause_after p.retries p.pause)

  -- no request
  abbrev Waits : Progress → Turn → Type 0
  Waits p t = ((x : ℕ) (xs : List ℕ) → with_pause t.action x xs ≡ xs) × (t.progress.retries ≡ p.retries) × (t.progress.pause ≡ p.pause)

  abbrev Either : Progress → Turn → Type 0
  Either p t = Asks p t ⊎ Waits p t

  either_if : (b : Bool) (p : Progress) (t u : Turn) → (b ≡ true → Either p t) → (b ≡ false → Either p u) → Either p (if b then t else u)
  either_if b p t u first second = cond_both b t u (Either p) first second

  either_retried : (p : Progress) (last : LastRequest) → Either p (retried s p last)
  either_retried p last = either_if (nat_lt p.retries s.tries && (p.received == 0 || p.is_ranged)) p _ _
      (λ e. inl (refl, refl, ltb-true _ _ (and_parts _ _ e).0, refl)) (λ e. inr ((λ x xs. refl), refl, refl))

  either_answered : (p : Progress) (status : ℕ) (accepts : Bool) (class : AnswerClass) → Either p (answered s p status accepts class)
  either_answered p status accepts Body = inr ((λ x xs. refl), refl, refl)
  either_answered p status accepts Missing = inr ((λ x xs. refl), refl, refl)
  either_answered p status accepts Refused = inr ((λ x xs. refl), refl, refl)
  either_answered p status accepts Unready = either_retried p (Status status)

  either_turned : (p : Progress) (event : RetryEvent) → Either p (turned s p event)
  either_turned p (Fault fault) = either_retried p (LastRequest.Fault fault)
  either_turned p (Answer status accepts) = either_answered p status accepts (class_of status p.received)
  either_turned p (Piece len) = either_if (nat_lt (p.received + len) (2 ^ 64)) p _ _
      (λ e. inr ((λ x xs. refl), refl, refl)) (λ e. inr ((λ x xs. refl), refl, refl))
  either_turned p End = inr ((λ x xs. refl), refl, refl)

  either_turn : (p : Progress) (event : RetryEvent) → Either p (turn s p event)
  either_turn p event = either_if p.is_over p _ _ (λ e. inr ((λ x xs. refl), refl, refl)) (λ e. either_turned p event)

  asks_counted : (sent : ℕ) (p : Progress) (t : Turn) → Either p t → t.action ≡ Request → IsCounted s sent p 1 → IsCounted s sent t.progress 0
  asks_counted sent p t (inl asks) is h =
      let retries = asks.1 in
      let left = asks.2 in
      let before = h.sent in
      record { few = omega arith; sent = omega arith }
  asks_counted sent p t (inr waits) is h = absurd (cons_grows t.progress.pause [] (sym (ap (λ action. with_pause action t.progress.pause []) is) ∙ waits.0 t.progress.pause []))

  ends_counted : (sent : ℕ) (p : Progress) (t : Turn) → Either p t → IsCounted s sent p 1 → IsCounted s sent t.progress 1
  ends_counted sent p t (inl asks) h =
      let retries = asks.1 in
      let left = asks.2 in
      let before = h.sent in
      record { few = omega arith; sent = omega arith }
  ends_counted sent p t (inr waits) h =
      let retries = waits.1 in
      let few = h.few in
      let before = h.sent in
      record { few = omega arith; sent = omega arith }

  -- a request that is asked for is one more than were sent
  pub turn_asks : (sent : ℕ) (p : Progress) (event : RetryEvent) → (turn s p event).action ≡ Request → IsCounted s sent p 1 → IsCounted s sent (turn s p event).progress 0
  turn_asks sent p event is h = asks_counted sent p (turn s p event) (either_turn p event) is h

  -- what was sent is counted after each event
  pub turn_counted : (sent : ℕ) (p : Progress) (event : RetryEvent) → IsCounted s sent p 1 → IsCounted s sent (turn s p event).progress 1
  turn_counted sent p event h = ends_counted sent p (turn s p event) (either_turn p event) h

  -- the pauses after some retries are few, and follow the rule
  abbrev Keeps : ℕ → ℕ → List ℕ → Type 0
  Keeps retries pause pauses = (length pauses + retries ≤ s.tries) × ArePaced s (pause_after retries pause) pauses

  past_first : (n m pause : ℕ) → n ≡ m + 1 → pause_after n pause ≡ next_pause s pause
  past_first n m pause e = grind (arith, nat_tests, e)

  few_from : (p : Progress) (run : List (RetryEvent × Turn)) → p.retries ≤ s.tries → Met s p run → Keeps p.retries p.pause (pauses_of run)
  few_from p [] within met = (omega (arith, within), search rules)
  few_from p (first ∷ later) within met =
      let either : Either p first.1 = rw met.0 (either_turn p first.0) in
      elim either [
        | inl asks ↦
            let more = asks.1 in
            let left = asks.2 in
            let rest = few_from first.1.progress later (omega arith) met.1 in
            let count = rest.0 in
            let paced : ArePaced s (next_pause s first.1.progress.pause) (pauses_of later) = rw (past_first first.1.progress.retries p.retries first.1.progress.pause more) at rest.1 in
            rw asks.0 (omega arith, (asks.3, rw asks.3 at paced))
        | inr waits ↦
            let rest = few_from first.1.progress later (rw waits.1 within) met.1 in
            rw (waits.0 first.1.progress.pause (pauses_of later)) (rw (waits.1, waits.2) at rest)
      ]

  pub few_and_paced : (run : List (RetryEvent × Turn)) → Met s (started s) run → FewAndPaced s (pauses_of run)
  few_and_paced run met =
      let kept = few_from (started s) run (omega arith) met in
      let count = kept.0 in
      record { few = omega arith; paced = kept.1 }
