use Rattle.std.proofs.Common.{refl}
use Rattle.tough_signed.proofs.Making.{unfiled_as}
use Rattle.tough_signed.proofs.signed_role.SignedRole.add_old_signatures.Goals as goal

pub returns-clause-refused : goal.returns-clause-refused
returns-clause-refused g c = unfiled_as g.T.Role.json g.T.Role.TYPE (record { signed = c.args.self.signed.signed; signatures = c.in_ok-signatures.signatures }) c.args.self.signed.signed refl c.from_signed.result c.from_signed.ensures.refused
