use Rattle.std.proofs.Common.{◌≡◌, ℕ, take, Option, Some, None, arith, ◌∙◌}
use Rattle.std.specs.Prelude.{IfSome, IfNone}
use Rattle.std.proofs.lemmas.List.{length-take-le}
use Rattle.tough_der.specs.Pem.{symbols_of}
use Rattle.tough_der.proofs.Pems.{symbols_none, symbols_is}
use Rattle.tough_der.proofs.pem.decode_lines.Goals as goal

if_some : (o : Option ℕ) (P Q : ℕ → Type 0) → ((n : ℕ) → P n → Q n) → IfSome o P → IfSome o Q
if_some None P Q f h = tt
if_some (Some n) P Q f h = f n h

if_none : (o : Option ℕ) (P Q : Type 0) → (P → Q) → IfNone o P → IfNone o Q
if_none None P Q f h = f h
if_none (Some n) P Q f h = tt

pub returns-in_err-len-clause-none : goal.returns-in_err-len-clause-none
returns-in_err-len-clause-none c =
    let n : symbols_of c.args.inner.now ≡ None = symbols_none c.args.inner.now (omega (arith, c.in_err-len.ensures.none)) in
    rw c.from_residual.ensures n

pub returns-clause-some : goal.returns-clause-some
returns-clause-some c =
    let l = length-take-le c.in_ok-len.len c.squeeze.new.symbols c.in_ok-len.ensures.some.0 in
    let e = symbols_is c.args.inner.now (take c.in_ok-len.len c.squeeze.new.symbols) c.in_ok-len.ensures.some.1 (omega (arith, l, c.in_ok-len.ensures.some.0)) in
    if_some c.decode.result _ _ (λ n p. (p.0, e ∙ p.1)) c.decode.ensures.some

pub returns-clause-none : goal.returns-clause-none
returns-clause-none c =
    let l = length-take-le c.in_ok-len.len c.squeeze.new.symbols c.in_ok-len.ensures.some.0 in
    let e = symbols_is c.args.inner.now (take c.in_ok-len.len c.squeeze.new.symbols) c.in_ok-len.ensures.some.1 (omega (arith, l, c.in_ok-len.ensures.some.0)) in
    if_none c.decode.result _ _ (λ p. e ∙ p) c.decode.ensures.none
