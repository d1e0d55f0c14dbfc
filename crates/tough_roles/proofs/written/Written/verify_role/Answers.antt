use Rattle.std.proofs.Common.{Some, None, Err, sym, ap, subst, ◌∙◌}
use Rattle.tough_roles.specs.Signature.{signatures_doc}
use Rattle.tough_roles.specs.Root.{keys_doc}
use Rattle.tough_roles.specs.Verdict.{MissingRole, verdict, Answers}
use Rattle.tough_roles.specs.Chain.{text_by}
use Rattle.tough_roles.proofs.lemmas.Verdicts.{policy-get, verdict-missing}
use Rattle.tough_roles.proofs.written.Written.verify_role.Goals as goal

pub returns-in-Some-clause-verdict : goal.returns-in-Some-clause-verdict
returns-in-Some-clause-verdict g c =
    let v = g.V.Verify.verifies c.args.verifier.now in
    let text = text_by g.T.Role.json c.args.document.signed in
    let ss = signatures_doc c.args.document.signatures.items in
    let asked = policy-get c.args.root.now.roles.entries (keys_doc c.args.root.now.keys.entries) g.T.Role.TYPE c.TYPE.result (Some c.in-Some.keys.now) c.TYPE.ensures c.in-Some.ensures.value in
    subst (Answers c.verify_by.result) (ap (λ o. verdict v (MissingRole g.T.Role.TYPE) g.T.Role.TYPE o text ss) (sym asked)) (c.verify_by.ensures.verdict (MissingRole g.T.Role.TYPE))

pub returns-in-None-clause-verdict : goal.returns-in-None-clause-verdict
returns-in-None-clause-verdict g c =
    let v = g.V.Verify.verifies c.args.verifier.now in
    let text = text_by g.T.Role.json c.args.document.signed in
    let ss = signatures_doc c.args.document.signatures.items in
    let asked = policy-get c.args.root.now.roles.entries (keys_doc c.args.root.now.keys.entries) g.T.Role.TYPE c.TYPE.result None c.TYPE.ensures c.in-None.ensures.value in
    ap (λ p. verdict v (MissingRole g.T.Role.TYPE) g.T.Role.TYPE p text ss) asked ∙ verdict-missing v (MissingRole g.T.Role.TYPE) g.T.Role.TYPE text ss ∙ ap (λ t. Err (MissingRole t)) (sym c.TYPE-in-None.ensures)
