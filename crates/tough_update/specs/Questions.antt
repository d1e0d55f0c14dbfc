-- What an update asks: a moment, the stored root, a file, or a step on the store (TUF specification 1.0, section 5).
use Rattle.std.specs.Prelude.{ℕ}
use Rattle.tough_vault.specs.Act.{Act}
use Rattle.tough_trust.specs.Requests.{RequestDoc}

pub data Question : Type 0 where
  Moment : Question
  -- the stored root, where it is newer than this version
  Stored : ℕ → Question
  Fetch : RequestDoc → Question
  Step : Act → Question
  Ready : Question
