use Rattle.std.proofs.Common.{Some, Err, sym, ap, subst, ◌∙◌}
use Rattle.tough_json.specs.Results.{RefusesWrite}
use Rattle.tough_roles.specs.Signature.{signatures_doc}
use Rattle.tough_roles.specs.Root.{keys_doc, role_keys_doc}
use Rattle.tough_roles.specs.Policy.{policy_of}
use Rattle.tough_roles.specs.Verdict.{JsonSerialization, verdict, Answers}
use Rattle.tough_roles.specs.Chain.{text_by}
use Rattle.tough_roles.proofs.lemmas.Verdicts.{verdict-bare}
use Rattle.tough_roles.proofs.verify.verify_by.Goals as goal

pub returns-in-Ok : goal.returns-in-Ok
returns-in-Ok g c = λ absent.
    let v = g.V.Verify.verifies c.args.verifier.now in
    let ss = signatures_doc c.args.document.now.signatures.items in
    let type = g.T.Role.TYPE in
    let p = policy_of (keys_doc c.args.known.now.entries) (role_keys_doc c.args.keys.now) in
    subst (Answers c.judge.result) (ap (λ t. verdict v absent t (Some p) (Some c.as_slice-text.result.now) (signatures_doc c.deref.result.now)) c.TYPE.ensures
    ∙ ap (λ x. verdict v absent type (Some p) (Some c.as_slice-text.result.now) (signatures_doc x)) c.deref.ensures.value
    ∙ ap (λ x. verdict v absent type (Some p) (Some x) ss) c.as_slice-text.ensures.value
    ∙ ap (λ o. verdict v absent type (Some p) o ss) (sym c.in-Ok.ensures)) (c.judge.ensures absent)

pub returns-in-Err-Unwritable : goal.returns-in-Err-Unwritable
returns-in-Err-Unwritable g c = λ absent.
    let v = g.V.Verify.verifies c.args.verifier.now in
    let text = text_by g.T.Role.json c.args.document.now.signed in
    let ss = signatures_doc c.args.document.now.signatures.items in
    let p = policy_of (keys_doc c.args.known.now.entries) (role_keys_doc c.args.keys.now) in
    ap (λ o. verdict v absent g.T.Role.TYPE (Some p) o ss) (subst (λ e. RefusesWrite e text) c.in-Err-Unwritable.field-0-is c.in-Err-Unwritable.ensures) ∙ verdict-bare v absent g.T.Role.TYPE p ss ∙ ap (λ t. Err (JsonSerialization t)) (sym c.TYPE-in-Err-Unwritable.ensures)
