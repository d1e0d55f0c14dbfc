-- What a fetch that has just begun yields.
use Rattle.std.proofs.Common.{◌≡◌, ℕ, List, Option}
use Rattle.futures.specs.Runs.{Runs}
use Rattle.tough_net.specs.declared.retry_events.RetryEvent.{RetryEvent}
use Rattle.tough_net.specs.declared.retry_events.RetrySettings.{RetrySettings}
use Rattle.tough_net.specs.Items.{Item}
use Rattle.tough_net.specs.Resource.{Fetches}
use Rattle.tough_net.specs.Retries.{started}
use Rattle.tough_http.specs.HttpUrls.{ServesHttp}

module _ {Q : Type 0} (bodies : Q → ℕ → Runs Item) (answers : Q → ℕ → RetryEvent → Type 0) where
  -- it is served, by the settings and at the URL that it was begun with
  pub begun_serves : (s t : RetrySettings) (text url : List ℕ) (q : Q) → s ≡ t → text ≡ url
      → (xs : List Item) (last : Option Item) → Fetches bodies answers s q text (started s) xs last → ServesHttp bodies answers t url xs last
  begun_serves s t text url q same is xs last h = rw (← same, ← is) (q, h)
