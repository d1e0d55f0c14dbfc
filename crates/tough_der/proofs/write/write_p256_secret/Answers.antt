use Rattle.std.proofs.Common.{◌≡◌, ◌++◌, length, ap, sym, ◌∙◌, List, ℕ, arith, append_assoc}
use Rattle.tough_der.specs.Keys.{p256_secret_front, p256_point_front}
use Rattle.tough_der.proofs.Fixed.{pkcs8_p256_is}
use Rattle.tough_der.proofs.write.write_p256_secret.Goals as goal

pub returns : goal.returns
returns c =
    let s : List ℕ = c.args.secret.now in
    let p : List ℕ = c.args.point.now in
    let n : length c.args.secret.now ≡ 32 = omega arith in
    let m : length c.args.point.now ≡ 65 = omega arith in
    let a : c.in_ok-bytes.bytes.items ≡ p256_secret_front = c.in_ok-bytes.ensures.items in
    let b : c.extend_from_slice.new.self.items ≡ c.in_ok-bytes.bytes.items ++ s = c.in_ok-extend_from_slice.ensures.items in
    let d : c.extend_from_slice-2.new.self.items ≡ c.extend_from_slice.new.self.items ++ p256_point_front = c.in_ok-extend_from_slice-2.ensures.items in
    let e : c.extend_from_slice-3.new.self.items ≡ c.extend_from_slice-2.new.self.items ++ p = c.in_ok-extend_from_slice-3.ensures.items in
    let f : c.extend_from_slice.new.self.items ≡ p256_secret_front ++ s = b ∙ ap (λ (z : List ℕ). z ++ s) a in
    let g : c.extend_from_slice-3.new.self.items ≡ ((p256_secret_front ++ s) ++ p256_point_front) ++ p = e ∙ ap (λ (z : List ℕ). z ++ p) (d ∙ ap (λ (z : List ℕ). z ++ p256_point_front) f) in
    g ∙ (append_assoc (p256_secret_front ++ s) p256_point_front p ∙ (append_assoc p256_secret_front s (p256_point_front ++ p) ∙ sym (pkcs8_p256_is s p n m)))
