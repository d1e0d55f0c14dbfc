use Rattle.std.proofs.Common.{◌≡◌, List, ℕ, take, true, subst}
use Rattle.tough_decoded.specs.Spelled.{is_armour}
use Rattle.tough_signatures.proofs.Armour.{read_is_armour}
use Rattle.tough_signatures.specs.Verifying.{public_label}
use Rattle.tough_signatures.proofs.public.public_key_in.Goals as goal

pub key_by-requires : goal.key_by-requires
key_by-requires c =
    let t : c.as_bytes.result.now ≡ c.args.text.now = c.as_bytes.ensures.value in
    subst (λ (x : List ℕ). is_armour x ≡ true) t (read_is_armour public_label c.as_bytes.result.now (take c.in-Some.len c.read_pem.new.bytes) c.in-Some.ensures.some.1)
