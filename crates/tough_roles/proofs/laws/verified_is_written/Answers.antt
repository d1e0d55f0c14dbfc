use Rattle.tough_roles.specs.Root.{root_json}
use Rattle.tough_roles.specs.Snapshot.{snapshot_json}
use Rattle.tough_roles.specs.Timestamp.{timestamp_json}
use Rattle.tough_roles.proofs.lemmas.Written.{verified-written}
use Rattle.tough_roles.proofs.laws.verified_is_written.Goals as goal

pub returns-clause-root : goal.returns-clause-root
returns-clause-root c = λ v absent type p s. verified-written v absent type p (root_json s.role) s.signatures

pub returns-clause-timestamp : goal.returns-clause-timestamp
returns-clause-timestamp c = λ v absent type p s. verified-written v absent type p (timestamp_json s.role) s.signatures

pub returns-clause-snapshot : goal.returns-clause-snapshot
returns-clause-snapshot c = λ v absent type p s. verified-written v absent type p (snapshot_json s.role) s.signatures
