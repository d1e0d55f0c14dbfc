use Rattle.std.proofs.Common.{◌≡◌, Some, None, option_map, sym, ap, ◌∙◌}
use Rattle.tough_keys.specs.Key.{key_doc}
use Rattle.tough_keys.specs.Same.{key_data}
use Rattle.tough_roles.specs.Root.{keys_doc}
use Rattle.tough_roles.specs.Counting.{under, key_of}
use Rattle.tough_roles.proofs.lemmas.Entry.{get-keys_doc}
use Rattle.tough_roles.proofs.verify.is_signed.Goals as goal

pub returns-in-Some : goal.returns-in-Some
returns-in-Some g c =
    let s = c.args.signature.now in
    let known : key_of (keys_doc c.args.keys.now.entries) s.keyid.bytes ≡ Some (key_doc c.in-Some.key.now) = get-keys_doc c.args.keys.now.entries s.keyid ∙ ap (option_map key_doc) (sym c.in-Some.ensures.value) in
    rw known (c.verify.ensures ∙ ap (λ x. g.V.Verify.verifies c.args.verifier.now (key_data c.in-Some.key.now) c.args.text.now x) c.as_slice.ensures)

pub returns-in-None : goal.returns-in-None
returns-in-None g c =
    let s = c.args.signature.now in
    let unknown : key_of (keys_doc c.args.keys.now.entries) s.keyid.bytes ≡ None = get-keys_doc c.args.keys.now.entries s.keyid ∙ ap (option_map key_doc) (sym c.in-None.ensures.value) in
    ap (λ o. under (g.V.Verify.verifies c.args.verifier.now) c.args.text.now s.sig.bytes o) (sym unknown)
