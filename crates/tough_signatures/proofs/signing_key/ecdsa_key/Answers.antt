use Rattle.std.proofs.Common.{◌≡◌, List, ℕ, true, sym, ◌∙◌, subst}
use Rattle.tough_decoded.specs.Spelled.{is_armour}
use Rattle.tough_der.specs.Pem.{pem_text}
use Rattle.tough_signatures.proofs.Armour.{written_is_armour}
use Rattle.tough_signatures.specs.Verifying.{public_label}
use Rattle.tough_signatures.proofs.signing_key.ecdsa_key.Goals as goal

pub ecdsa_text_key-requires : goal.ecdsa_text_key-requires
ecdsa_text_key-requires c =
    let e : c.as_str.result.now ≡ pem_text public_label c.as_slice.result.now = c.as_str.ensures.value ∙ c.in_ok-text.ensures in
    subst (λ (t : List ℕ). is_armour t ≡ true) (sym e) (written_is_armour public_label c.as_slice.result.now)
