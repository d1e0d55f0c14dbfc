use Rattle.std.proofs.Common.{[], codes, sym, ap, ◌∙◌}
use Rattle.serde_json.specs.Data.{array, no_members, member}
use Rattle.tough_json.specs.Pieces.{text_in, and_last}
use Rattle.tough_json.specs.Writing.{all_json}
use Rattle.tough_json.proofs.lemmas.Computed.{then_some}
use Rattle.tough_json.proofs.lemmas.Piece.{from-none}
use Rattle.tough_roles.specs.Signature.{signature_json, signatures_doc}
use Rattle.tough_roles.proofs.lemmas.Written.{signed-text}
use Rattle.tough_roles.proofs.signed.Signed.text_in_pieces.Goals as goal

pub returns : goal.returns
returns g c =
    let form = c.args.form in
    let role = g.T.Role.json c.args.self.now.signed in
    let begun = c.in_ok-object.ensures in
    let told = c.in_ok-text.ensures in
    let d = then_some (text_in form) role told.0 told.1 in
    let listed = member (codes "signatures") (array begun.0) no_members in
    let closed = c.close.ensures [] form listed (codes "signed") d.0 c.in_ok-object.before.items begun.2 (told.0, d.2, told.2) in
    let whole = c.in_ok-whole.ensures [] form (and_last listed (codes "signed") d.0) closed in
    signed-text form role d.0 (signatures_doc c.args.self.now.signatures.items) begun.0 c.in_ok-whole.whole.items d.1
    (ap (λ ss. all_json signature_json (signatures_doc ss)) (sym c.deref.ensures.value) ∙ begun.1) (from-none _ c.in_ok-whole.whole.items whole)
