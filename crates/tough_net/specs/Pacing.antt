-- The requests of a whole fetch, and the pauses before them.
use Rattle.std.specs.Prelude.{◌≡◌, ℕ, ◌≤◌, List, [], ◌∷◌, length, ⊤}
use Rattle.tough_net.specs.declared.retry_events.RetryEvent.{RetryEvent}
use Rattle.tough_net.specs.declared.retry_events.RetryAction.{RetryAction}
use Rattle.tough_net.specs.declared.retry_events.RetryAction.TheVariants.{Request, Read, Finish, Fail}
use Rattle.tough_net.specs.declared.retry_events.RetrySettings.{RetrySettings}
use Rattle.tough_net.specs.Retries.{Progress, Turn, next_pause, started, turn}

-- these pauses, and one more before them where the action is a request
abbrev pub with_pause : RetryAction → ℕ → List ℕ → List ℕ
with_pause Request pause pauses = pause ∷ pauses
with_pause Read pause pauses = pauses
with_pause Finish pause pauses = pauses
with_pause (Fail _) pause pauses = pauses

-- the pauses before the further requests that these events led to, in order: one for each
abbrev pub pauses_of : List (RetryEvent × Turn) → List ℕ
pauses_of [] = []
pauses_of (met ∷ later) = with_pause met.1.action met.1.progress.pause (pauses_of later)

module _ (s : RetrySettings) where
  -- a fetch that had come so far met these events, and each led to the turn beside it
  abbrev pub Met : Progress → List (RetryEvent × Turn) → Type 0
  Met p [] = ⊤
  Met p (met ∷ later) = (met.1 ≡ turn s p met.0) × Met met.1.progress later

  -- the first is this pause, and each later one follows the one before it by the rule
  abbrev pub ArePaced : ℕ → List ℕ → Type 0
  ArePaced pause [] = ⊤
  ArePaced pause (x ∷ xs) = (x ≡ pause) × ArePaced (next_pause s pause) xs

  -- No more requests follow the first than there are tries, and their pauses begin with that of the first.
  pub record FewAndPaced (pauses : List ℕ) : Type 0 where
    pub few : length pauses ≤ s.tries
    pub paced : ArePaced (started s).pause pauses
