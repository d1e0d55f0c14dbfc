use Rattle.std.proofs.Common.{◌≡◌, ◌++◌, length, ap, sym, ◌∙◌, List, ℕ, arith}
use Rattle.tough_der.specs.Keys.{ed25519_front}
use Rattle.tough_der.proofs.Fixed.{spki_ed25519_is}
use Rattle.tough_der.proofs.write.write_ed25519.Goals as goal

pub returns : goal.returns
returns c =
    let n : length c.args.key.now ≡ 32 = omega arith in
    let a : c.in_ok-bytes.bytes.items ≡ ed25519_front = c.in_ok-bytes.ensures.items in
    let b : c.extend_from_slice.new.self.items ≡ c.in_ok-bytes.bytes.items ++ c.args.key.now = c.in_ok-extend_from_slice.ensures.items in
    b ∙ (ap (λ (z : List ℕ). z ++ c.args.key.now) a ∙ sym (spki_ed25519_is c.args.key.now n))
