use Rattle.std.proofs.Common.{◌≡◌, ◌<◌, length, inr, refl, sym, ◌∙◌, arith}
use Rattle.std.proofs.lemmas.List.{length-map}
use Rattle.std.specs.Int.NonZero.{non_zero_u64_get}
use Rattle.tough_roles.specs.Signature.{signature_doc, signatures_doc}
use Rattle.tough_sign.specs.Making.{chosen}
use Rattle.tough_sign.specs.Signers.{signers_of}
use Rattle.tough_signed.specs.Holders.{holder_doc, known_of}
use Rattle.tough_signed.proofs.Making.{made_length}
use Rattle.tough_signed.proofs.sign.enough_by.Goals as goal

pub returns-then-len-get-clause-refused : goal.returns-then-len-get-clause-refused
returns-then-len-get-clause-refused g c =
    let by = chosen g.S.Sign.key (known_of (holder_doc c.args.holder.now)) c.args.keys.now.keyids.items (signers_of c.args.signers.now) in
    let items = c.in_ok-signatures.signatures.items in
    let count : length (signatures_doc items) ≡ length by = made_length g.S.Sign.signs c.args.text.now by (signatures_doc items) c.in_ok-signatures.ensures.made in
    let mapped : length (signatures_doc items) ≡ length items = length-map items signature_doc in
    let long = c.len.ensures in
    let held = c.in_ok-signatures.signatures.ok.0 in
    let asked = c.get.ensures.value in
    let less = c.if-len-get.true in
    let few : length by < non_zero_u64_get c.args.keys.now.threshold = omega (arith, count, mapped, long, held, asked, less) in
    inr (refl, sym c.is_lenient.ensures ∙ c.if-is_lenient.false, few)
