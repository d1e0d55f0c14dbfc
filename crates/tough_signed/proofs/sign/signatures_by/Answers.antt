use Rattle.std.proofs.Common.{sym, subst}
use Rattle.tough_roles.specs.Root.{keys_doc}
use Rattle.tough_sign.specs.Signers.{signers_of, SomeFails}
use Rattle.tough_signed.specs.Refusals.{IsFailure}
use Rattle.tough_signed.proofs.Making.{failure, chosen_some}
use Rattle.tough_signed.proofs.sign.signatures_by.Goals as goal

pub returns-in-Err-clause-failure : goal.returns-in-Err-clause-failure
returns-in-Err-clause-failure g c =
    let signers = signers_of c.args.signers.now in
    subst (IsFailure (SomeFails g.S.Sign.fails signers)) (sym c.from.ensures)
    (failure (SomeFails g.S.Sign.fails signers) c.in-Err.error (λ t r. chosen_some g.S.Sign.key g.S.Sign.fails t (keys_doc c.known_of.result.now.entries) c.deref.result.now signers (c.in-Err.ensures.failure t r)))
