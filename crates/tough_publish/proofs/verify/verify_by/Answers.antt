use Rattle.std.proofs.Common.{sym, subst}
use Rattle.tough_schema.specs.Delegations.{delegations_doc}
use Rattle.tough_publish.specs.Verifying.{IsUnverified, verdict_by}
use Rattle.tough_publish.proofs.Verdicts.{unverified_is}
use Rattle.tough_publish.proofs.verify.verify_by.Goals as goal

pub returns-in-Err-clause-refused : goal.returns-in-Err-clause-refused
returns-in-Err-clause-refused g c =
    let name = c.args.name.now in
    let v = verdict_by (g.V.Verify.verifies c.args.verifier.now) (delegations_doc c.args.delegations.now) name c.args.document.now in
    subst (IsUnverified name v) (sym c.unverified.ensures) (unverified_is c.in_ok-role.role name v c.in-Err.source c.in_ok-role.ensures.ok c.in-Err.ensures.verdict)
