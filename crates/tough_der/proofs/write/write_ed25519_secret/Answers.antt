use Rattle.std.proofs.Common.{◌≡◌, ◌++◌, length, ap, sym, ◌∙◌, List, ℕ, arith}
use Rattle.tough_der.specs.Keys.{ed25519_secret_front}
use Rattle.tough_der.proofs.Fixed.{pkcs8_ed25519_is}
use Rattle.tough_der.proofs.write.write_ed25519_secret.Goals as goal

pub returns : goal.returns
returns c =
    let n : length c.args.secret.now ≡ 32 = omega arith in
    let a : c.in_ok-bytes.bytes.items ≡ ed25519_secret_front = c.in_ok-bytes.ensures.items in
    let b : c.extend_from_slice.new.self.items ≡ c.in_ok-bytes.bytes.items ++ c.args.secret.now = c.in_ok-extend_from_slice.ensures.items in
    b ∙ (ap (λ (z : List ℕ). z ++ c.args.secret.now) a ∙ sym (pkcs8_ed25519_is c.args.secret.now n))
