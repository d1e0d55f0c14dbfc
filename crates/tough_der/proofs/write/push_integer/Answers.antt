use Rattle.std.proofs.Common.{◌≡◌, ℕ, ◌≤◌, List, ◌∷◌, ◌++◌, length, refl, ap, ◌∙◌, arith}
use Rattle.tough_der.specs.Der.{shorten, der}
use Rattle.tough_der.proofs.Elements.{appended}
use Rattle.tough_der.proofs.Integers.{shorter}
use Rattle.tough_der.proofs.write.push_integer.Goals as goal

few : (number wide contents : List ℕ) → length number ≡ 32 → wide ≡ 0 ∷ number → contents ≡ shorten wide → (contents ≡ shorten (0 ∷ number)) × (length contents ≤ 33)
few number wide contents n a b =
    let k : contents ≡ shorten (0 ∷ number) = b ∙ ap shorten a in
    let s = shorter (0 ∷ number) in
    let l = ap length k in
    (k, omega arith)

pub overflow_cast-contents : goal.overflow_cast-contents
overflow_cast-contents c =
    let f = few c.args.number.now c.with_sign-wide.result c.shorten-contents.result.now (omega arith) c.with_sign-wide.ensures c.shorten-contents.ensures in
    omega (arith, f.1)

pub returns-clause-integer : goal.returns-clause-integer
returns-clause-integer c =
    let f = few c.args.number.now c.with_sign-wide.result c.shorten-contents.result.now (omega arith) c.with_sign-wide.ensures c.shorten-contents.ensures in
    appended c.args.bytes.now.items c.push.new.self.items c.push-2.new.self.items c.extend_from_slice.new.self.items c.shorten-contents.result.now 2 (length c.shorten-contents.result.now)
    c.in_ok-push.ensures.items c.in_ok-push-2.ensures.items c.in_ok-extend_from_slice.ensures.items refl (omega (arith, f.1))
    ∙ ap (λ (z : List ℕ). c.args.bytes.now.items ++ der 2 z) f.0

pub returns-clause-len : goal.returns-clause-len
returns-clause-len c =
    let f = few c.args.number.now c.with_sign-wide.result c.shorten-contents.result.now (omega arith) c.with_sign-wide.ensures c.shorten-contents.ensures in
    omega (arith, f.1, c.in_ok-push.ensures.len, c.in_ok-push-2.ensures.len, c.in_ok-extend_from_slice.ensures.len)
