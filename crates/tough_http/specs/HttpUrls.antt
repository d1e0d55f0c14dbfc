-- What a transport over HTTP answers to URLs.
use Rattle.std.specs.Prelude.{◌≡◌, ℕ, List, codes, ◌⊎◌}
use Rattle.futures.specs.Runs.{Runs}
use Rattle.tough_net.specs.declared.error.TransportError.{TransportError}
use Rattle.tough_net.specs.declared.error.TransportErrorKind.TheVariants.{UnsupportedUrlScheme}
use Rattle.tough_net.specs.declared.retry_events.RetryEvent.{RetryEvent}
use Rattle.tough_net.specs.declared.retry_events.RetrySettings.{RetrySettings}
use Rattle.tough_net.specs.Errors.{IsMemory, error_kind, error_url}
use Rattle.tough_net.specs.Items.{Item}
use Rattle.tough_net.specs.Resource.{Fetches}
use Rattle.tough_net.specs.Retries.{started}

-- the scheme of URLs of plain HTTP, RFC 9110, section 4.2.1
abbrev pub IsHttpScheme : List ℕ → Type 0
IsHttpScheme scheme = scheme ≡ codes "http"

-- the scheme is one that isn't served
abbrev pub IsUnsupported : List ℕ → TransportError → Type 0
IsUnsupported url e = (error_kind e ≡ UnsupportedUrlScheme) × (error_url e ≡ url)

-- no fetch begins: the scheme is another, or there is no memory
abbrev pub RefusesHttp : List ℕ → List ℕ → TransportError → Type 0
RefusesHttp scheme url e = IsMemory e ⊎ (¬ (IsHttpScheme scheme) × IsUnsupported url e)

module _ {Q : Type 0} (bodies : Q → ℕ → Runs Item) (answers : Q → ℕ → RetryEvent → Type 0) where
  -- what a fetch of the URL of this text may yield that has just begun, by requests of whatever resource
  abbrev pub ServesHttp : RetrySettings → List ℕ → Runs Item
  ServesHttp s url xs last = (resource : Q) × Fetches bodies answers s resource url (started s) xs last
