-- How fetches over HTTP are set.
use Rattle.std.specs.Prelude.{ℕ}
use Rattle.std.specs.Duration.{as_nanos}
use Rattle.tough_net.specs.declared.retry_events.RetrySettings.{RetrySettings}
use Rattle.tough_http.specs.declared.builder.HttpTransportBuilder.{HttpTransportBuilder}

-- What contracts see of the settings: the time of a whole try and of its connecting, how many further tries there may be, the first and
-- the greatest pause before them, and the factor of a pause. Times are in nanoseconds.
pub record HttpSettings : Type 0 where
  pub timeout : ℕ
  pub connect_timeout : ℕ
  pub tries : ℕ
  pub initial_backoff : ℕ
  pub max_backoff : ℕ
  pub numerator : ℕ
  pub denominator : ℕ

-- when a resource is asked for again
abbrev pub retries_of : HttpTransportBuilder → RetrySettings
retries_of b = b.retries

abbrev pub settings : HttpTransportBuilder → HttpSettings
settings b = record {
  timeout = as_nanos b.timeout;
  connect_timeout = as_nanos b.connect_timeout;
  tries = b.retries.tries;
  initial_backoff = as_nanos b.retries.initial_backoff;
  max_backoff = as_nanos b.retries.max_backoff;
  numerator = b.retries.numerator;
  denominator = b.retries.denominator;
}

-- 30 s for a try and 10 s of them to connect; 4 further tries, after pauses that grow by half, from 100 ms up to 1 s
abbrev pub defaults : HttpSettings
defaults = record {
  timeout = 30_000_000_000;
  connect_timeout = 10_000_000_000;
  tries = 4;
  initial_backoff = 100_000_000;
  max_backoff = 1_000_000_000;
  numerator = 3;
  denominator = 2;
}
