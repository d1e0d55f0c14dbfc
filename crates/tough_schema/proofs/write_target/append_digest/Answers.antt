use Rattle.std.proofs.Common.{codes}
use Rattle.serde_json.specs.Data.{no_members, member}
use Rattle.tough_json.specs.Pieces.{text_in}
use Rattle.tough_json.specs.Writing.{hexadecimal_json}
use Rattle.tough_json.proofs.lemmas.Computed.{then_some}
use Rattle.tough_schema.proofs.write_target.append_digest.Goals as goal

pub returns : goal.returns
returns c =
    let base = c.args.out.items in
    let form = c.args.form in
    let opened = (c.in_ok-object.ensures base form no_members c.in_ok-begun.ensures).1 in
    let told = c.in_ok-digits.ensures form in
    let d = then_some (text_in form) (hexadecimal_json c.args.digest.now) told.0 told.1 in
    let closed = c.close.ensures base form no_members (codes "sha256") d.0 _ opened (told.0, d.2, told.2) in
    (d.0, d.1, c.in_ok-text.ensures base form (member (codes "sha256") d.0 no_members) closed)
