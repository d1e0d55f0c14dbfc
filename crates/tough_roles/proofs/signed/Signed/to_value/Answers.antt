use Rattle.std.proofs.Common.{sym, ap, ◌∙◌}
use Rattle.serde_json.specs.View.{view}
use Rattle.tough_roles.specs.Signature.{signatures_doc, signed_parts_json}
use Rattle.tough_roles.proofs.lemmas.Signed.{signed-back}
use Rattle.tough_roles.proofs.signed.Signed.to_value.Goals as goal

pub returns-clause-back : goal.returns-clause-back
returns-clause-back g c = λ kept. record {
  role = view c.in_ok-role.role;
  found = signed-back (view c.in_ok-role.role) (signatures_doc c.args.self.now.signatures.items) (view c.in_ok-signed_value.field-0) (ap (λ x. signed_parts_json (view c.in_ok-role.role) (signatures_doc x)) (sym c.deref.ensures.value) ∙ c.in_ok-signed_value.ensures);
  read = c.in_ok-role.ensures.back kept;
}
