use Rattle.std.proofs.Common.{rules, ◌≡◌, length, vec_len, sym, ap, ◌∙◌}
use Rattle.tough_json.specs.Pieces.{text_in}
use Rattle.tough_json.specs.Writing.{all_json}
use Rattle.tough_json.specs.declared.pieces.Form.TheVariants as forms
use Rattle.tough_json.proofs.lemmas.Computed.{then_some}
use Rattle.tough_json.proofs.lemmas.Piece.{both-parts}
use Rattle.tough_roles.specs.Signature.{signature_json, signatures_doc}
use Rattle.tough_roles.proofs.written.text_to_role.Goals as goal

pub returns : goal.returns
returns g c =
    let role = g.T.Role.json c.args.document.now.signed in
    let begun = c.in_ok-object.ensures in
    let told = c.in_ok-text.ensures in
    let d = then_some (text_in forms.Both) role told.0 told.1 in
    let both = both-parts d.0 told.0 d.2 in
    let size : vec_len c.in_ok-object.before ≡ length c.in_ok-object.before.items = search rules in
    record {
      items = begun.0;
      listed = ap (λ ss. all_json signature_json (signatures_doc ss)) (sym c.deref.ensures.value) ∙ begun.1;
      before = c.in_ok-object.before.items;
      begun = begun.2;
      place = c.len-at.ensures ∙ size;
      value = d.0;
      is = d.1;
      role = told.0;
      whole = told.2;
      canonical = both.0;
      compact = both.1;
    }
