use Rattle.std.proofs.Common.{sym, ◌∙◌}
use Rattle.serde_json.specs.View.{view}
use Rattle.tough_roles.specs.Signature.{signatures_doc}
use Rattle.tough_roles.proofs.lemmas.Written.{role-floats}
use Rattle.tough_roles.proofs.signed.Signed.compact.Goals as goal

pub returns-then-holds_float-clause-unwritable : goal.returns-then-holds_float-clause-unwritable
returns-then-holds_float-clause-unwritable g c = λ w.
    role-floats (g.T.Role.json c.args.self.now.signed) (signatures_doc c.args.self.now.signatures.items) (view c.in_ok-value.value) c.in_ok-value.ensures.written
    (sym c.holds_float.ensures.float ∙ c.if-holds_float.true)
