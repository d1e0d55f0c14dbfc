use Rattle.std.proofs.Common.{codes}
use Rattle.tough_roles.proofs.lemmas.Signed.{no-parts, no-role, value-under}
use Rattle.tough_roles.proofs.read_signed.signed_of.Goals as goal

pub returns-in-Err-clause-read : goal.returns-in-Err-clause-read
returns-in-Err-clause-read g c = λ d h. no-parts g.T.Role.is_refused c.in-Err.error d (c.in-Err.ensures d h)

pub returns-in-Err-from_borrowed-clause-read : goal.returns-in-Err-from_borrowed-clause-read
returns-in-Err-from_borrowed-clause-read g c = λ d h.
    let parts = c.in-Ok.ensures d h in
    no-role g.T.Role.is_refused c.within.result d parts.0 _ parts.2 (value-under g.T.Role.is_refused (codes "signed") c.in-Err-from_borrowed.error c.within.result parts.0 c.within.ensures (c.in-Err-from_borrowed.ensures.read parts.0 parts.1))
