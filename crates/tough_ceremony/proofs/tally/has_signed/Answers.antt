use Rattle.std.proofs.Common.{Option, sym, ap, option_map, ◌∙◌}
use Rattle.tough_keys.specs.Key.{KeyDoc, key_doc}
use Rattle.tough_keys.specs.Same.{data_of}
use Rattle.tough_roles.specs.Signature.{signatures_doc}
use Rattle.tough_roles.specs.Verdict.{has_signed}
use Rattle.tough_roles.proofs.lemmas.Entry.{get-keys_doc}
use Rattle.tough_ceremony.proofs.tally.has_signed.Goals as goal

pub returns-in-Some : goal.returns-in-Some
returns-in-Some g c =
    c.is_signed.ensures
    ∙ sym (ap (λ (o : Option KeyDoc). has_signed (g.V.Verify.verifies c.args.verifier.now) c.args.text.now (signatures_doc c.args.signatures.now) (c.args.id.now.bytes, option_map data_of o))
    (get-keys_doc c.args.known.now.entries c.args.id.now ∙ ap (option_map key_doc) (sym c.in-Some.ensures.value)))

pub returns-in-None : goal.returns-in-None
returns-in-None g c =
    sym (ap (λ (o : Option KeyDoc). has_signed (g.V.Verify.verifies c.args.verifier.now) c.args.text.now (signatures_doc c.args.signatures.now) (c.args.id.now.bytes, option_map data_of o))
    (get-keys_doc c.args.known.now.entries c.args.id.now ∙ ap (option_map key_doc) (sym c.in-None.ensures.value)))
