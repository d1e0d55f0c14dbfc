use Rattle.std.proofs.Common.{[], ◌-◌, length, take, drop, codes, Some, option_and_then, subst, sym, ap, ◌∙◌}
use Rattle.serde_json.specs.Data.{array, no_members, member}
use Rattle.tough_json.specs.Pieces.{and_last}
use Rattle.tough_json.specs.declared.pieces.Form.TheVariants as forms
use Rattle.tough_json.proofs.lemmas.Piece.{from-none}
use Rattle.tough_roles.specs.Signature.{signatures_doc}
use Rattle.tough_json.specs.CanonicalText.{canonical_of}
use Rattle.tough_roles.specs.Chain.{text_by}
use Rattle.tough_roles.specs.Policy.{policy_of}
use Rattle.tough_roles.specs.Root.{keys_doc, role_keys_doc}
use Rattle.tough_roles.specs.Verdict.{verdict, Answers}
use Rattle.tough_roles.proofs.lemmas.Written.{role-behind, signed-text}
use Rattle.tough_roles.proofs.written.Written.verify_by.Goals as goal

pub invariant_of-result : goal.invariant_of-result
invariant_of-result g c =
    let e = c.in-Ok.ensures in
    let listed = member (codes "signatures") (array e.items) no_members in
    let closed = c.close.ensures [] forms.Compact listed (codes "signed") e.value e.before e.begun (e.role, e.compact, e.whole) in
    let whole = c.in_ok-whole-in-Ok.ensures [] forms.Compact (and_last listed (codes "signed") e.value) closed in
    signed-text forms.Compact (g.T.Role.json c.args.document.signed) e.value (signatures_doc c.args.document.signatures.items) e.items c.in_ok-whole-in-Ok.whole.items e.is e.listed (from-none _ c.in_ok-whole-in-Ok.whole.items whole)

pub returns-in_ok-whole-in-Ok-clause-verdict : goal.returns-in_ok-whole-in-Ok-clause-verdict
returns-in_ok-whole-in-Ok-clause-verdict g c = λ absent.
    let e = c.in-Ok.ensures in
    let v = g.V.Verify.verifies c.args.verifier.now in
    let type = g.T.Role.TYPE in
    let p = policy_of (keys_doc c.args.known.now.entries) (role_keys_doc c.args.keys.now) in
    let ss = signatures_doc c.args.document.signatures.items in
    let seen = Some (take (length c.deref.result.now - c.in-Ok.at) (drop c.in-Ok.at c.deref.result.now)) in
    let role = role-behind e.before e.role c.deref.result.now c.in-Ok.at e.place (c.deref.ensures.value ∙ e.whole) in
    let text = ap Some role ∙ sym (ap (option_and_then canonical_of) e.is ∙ e.canonical) in
    let told = subst (Answers c.judge.result) (ap (λ t. verdict v absent t (Some p) seen (signatures_doc c.deref-in-Ok.result.now)) c.TYPE.ensures
    ∙ ap (λ x. verdict v absent type (Some p) seen (signatures_doc x)) c.deref-in-Ok.ensures.value
    ∙ ap (λ o. verdict v absent type (Some p) o ss) text) (c.judge.ensures absent) in
    subst (λ r. Answers r (verdict v absent type (Some p) (text_by g.T.Role.json c.args.document.signed) ss)) c.in_ok-judge-in-Ok.was told
