-- What contracts see of the retries of a fetch.
use Rattle.tough_net.specs.Retries.{Progress}
use Rattle.tough_net.specs.declared.retry_events.RetrySettings.{RetrySettings}

pub record Fetching : Type 0 where
  pub settings : RetrySettings
  pub progress : Progress
