use Rattle.tough_roles.specs.Document.{IsSigned, IsNotSigned}
use Rattle.tough_roles.proofs.lemmas.Signed.{read-text}
use Rattle.tough_roles.proofs.signed.Signed.read.Goals as goal

pub returns-in-Ok-clause-read : goal.returns-in-Ok-clause-read
returns-in-Ok-clause-read g c =
    let document = c.in-Ok.ensures in
    read-text (IsSigned g.T.Role.is_read) (IsNotSigned g.T.Role.is_refused) c.signed_of.result document.0 c.args.bytes.now document.1 (c.signed_of.ensures.read document.0 document.2)
