use Rattle.std.proofs.Common.{refl}
use Rattle.tough_roles.specs.Root.{root_at, root_doc}
use Rattle.tough_roles.proofs.lemmas.Signed.{signed-read, signed-refused}
use Rattle.tough_roles.proofs.laws.signed_root.Goals as goal

pub returns-clause-read : goal.returns-clause-read
returns-clause-read c = λ d s h. signed-read root_at root_doc d s h

pub returns-clause-refused : goal.returns-clause-refused
returns-clause-refused c = signed-refused root_at

pub returns-clause-written : goal.returns-clause-written
returns-clause-written c = λ s. refl
