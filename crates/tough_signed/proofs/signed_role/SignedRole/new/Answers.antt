use Rattle.tough_signed.specs.Holders.{holder_doc}
use Rattle.tough_signed.proofs.Making.{unfiled_signed, unsigned_or}
use Rattle.tough_signed.proofs.signed_role.SignedRole.new.Goals as goal

pub returns-clause-refused : goal.returns-clause-refused
returns-clause-refused g c =
    unsigned_or _ _ c.from_signed.result
    (unfiled_signed g.T.Role.json g.T.Role.TYPE g.S.Sign.key g.S.Sign.signs (holder_doc c.args.holder.now) (g.T.Role.id c.args.role) c.args.signers.now c.in_ok-signed.signed c.args.role c.in_ok-signed.ensures.role
    c.in_ok-signed.ensures.signed c.from_signed.result c.from_signed.ensures.refused)
