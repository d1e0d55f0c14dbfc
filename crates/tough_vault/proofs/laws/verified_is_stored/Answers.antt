use Rattle.tough_vault.proofs.Verified.{timestamp-stored, snapshot-stored}
use Rattle.tough_vault.proofs.laws.verified_is_stored.Goals as goal

pub returns-clause-timestamp : goal.returns-clause-timestamp
returns-clause-timestamp c = timestamp-stored

pub returns-clause-snapshot : goal.returns-clause-snapshot
returns-clause-snapshot c = snapshot-stored
