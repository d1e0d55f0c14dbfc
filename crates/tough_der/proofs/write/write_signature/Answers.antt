use Rattle.std.proofs.Common.{◌≡◌, ℕ, ◌≤◌, List, [], ◌++◌, length, ap, ◌∙◌, arith}
use Rattle.tough_der.specs.Der.{der, der_integer, sig_value}
use Rattle.tough_der.proofs.Elements.{appended}
use Rattle.tough_der.proofs.write.write_signature.Goals as goal

pub returns : goal.returns
unfolding sig_value
returns c =
    let a : c.push_integer.new.bytes.items ≡ [] ++ der_integer c.args.r.now = c.in_ok-push_integer.ensures.integer ∙ ap (λ (z : List ℕ). z ++ der_integer c.args.r.now) c.new-halves.ensures.items in
    let b : c.push_integer-2.new.bytes.items ≡ der_integer c.args.r.now ++ der_integer c.args.s.now = c.in_ok-push_integer-2.ensures.integer ∙ ap (λ (z : List ℕ). z ++ der_integer c.args.s.now) a in
    let n : length c.push_integer-2.new.bytes.items ≤ 70 = omega (arith, c.in_ok-push_integer.ensures.len, c.in_ok-push_integer-2.ensures.len, c.new-halves.ensures.len) in
    let e = appended c.new-bytes.result.items c.push.new.self.items c.push-2.new.self.items c.extend_from_slice.new.self.items c.push_integer-2.new.bytes.items 0x30 c.len.result
    c.in_ok-push.ensures.items c.in_ok-push-2.ensures.items (c.in_ok-extend_from_slice.ensures.items ∙ ap (λ (z : List ℕ). c.push-2.new.self.items ++ z) c.as_slice.ensures.value) (omega (arith, c.len.ensures)) (omega (arith, n)) in
    e ∙ (ap (λ (z : List ℕ). z ++ der 0x30 c.push_integer-2.new.bytes.items) c.new-bytes.ensures.items ∙ ap (λ (z : List ℕ). der 0x30 z) b)
