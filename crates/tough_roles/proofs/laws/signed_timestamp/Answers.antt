use Rattle.std.proofs.Common.{refl}
use Rattle.tough_roles.specs.Timestamp.{timestamp_at, timestamp_doc}
use Rattle.tough_roles.proofs.lemmas.Signed.{signed-read, signed-refused}
use Rattle.tough_roles.proofs.laws.signed_timestamp.Goals as goal

pub returns-clause-read : goal.returns-clause-read
returns-clause-read c = λ d s h. signed-read timestamp_at timestamp_doc d s h

pub returns-clause-refused : goal.returns-clause-refused
returns-clause-refused c = signed-refused timestamp_at

pub returns-clause-written : goal.returns-clause-written
returns-clause-written c = λ s. refl
