use Rattle.std.proofs.Common.{◌≡◌, ◌++◌, length, ap, sym, ◌∙◌, List, ℕ, arith}
use Rattle.tough_der.specs.Keys.{p256_front}
use Rattle.tough_der.proofs.Fixed.{spki_p256_is}
use Rattle.tough_der.proofs.write.write_p256.Goals as goal

pub returns : goal.returns
returns c =
    let n : length c.args.point.now ≡ 65 = omega arith in
    let a : c.in_ok-bytes.bytes.items ≡ p256_front = c.in_ok-bytes.ensures.items in
    let b : c.extend_from_slice.new.self.items ≡ c.in_ok-bytes.bytes.items ++ c.args.point.now = c.in_ok-extend_from_slice.ensures.items in
    b ∙ (ap (λ (z : List ℕ). z ++ c.args.point.now) a ∙ sym (spki_p256_is c.args.point.now n))
