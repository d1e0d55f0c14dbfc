use Rattle.std.proofs.Common.{◌≡◌, ℕ, ◌+◌, ◌-◌, ◌<◌, ◌≤◌, List, ◌∷◌, length, get_or, drop, ap, sym, ◌∙◌, arith, length-drop}
use Rattle.std.proofs.lemmas.List.{drop_more, get_or-drop, take_all}
use Rattle.tough_der.specs.Der.{shorten}
use Rattle.tough_der.proofs.Integers.{without_first, rest_kept}
use Rattle.tough_der.proofs.write.shorten.Goals as goal
use Rattle.tough_der.proofs.write.shorten.Goals.{then-loop-start-test+then-bytes-start-eq0+else-bytes-start-lt128, then-loop-start-test+else-bytes-start-eq0, else-loop-start-test}

one_less : (bs : List ℕ) (i : ℕ) → i + 1 < length bs → get_or bs i 0 ≡ 0 → get_or bs (i + 1) 0 < 128 → shorten (drop (i + 1) bs) ≡ shorten (drop i bs)
one_less bs i h e l =
    let a : drop i bs ≡ get_or bs i 0 ∷ drop (i + 1) bs = drop_more bs i 0 (omega arith) in
    let b : drop (i + 1) bs ≡ get_or bs (i + 1) 0 ∷ drop (i + 1 + 1) bs = drop_more bs (i + 1) 0 h in
    ap shorten b ∙ (sym (without_first (get_or bs i 0) (get_or bs (i + 1) 0) (drop (i + 1 + 1) bs) e l) ∙ (ap (λ (z : List ℕ). shorten (get_or bs i 0 ∷ z)) (sym b) ∙ ap shorten (sym a)))

kept_from : (bs : List ℕ) (i : ℕ) → (i + 1 < length bs → get_or bs i 0 ≡ 0 → 128 ≤ get_or bs (i + 1) 0) → shorten (drop i bs) ≡ drop i bs
kept_from bs i h =
    rest_kept (drop i bs) (λ l e.
    let n = length-drop i bs in
    let a : get_or (drop i bs) 0 0 ≡ get_or bs (i + 0) 0 = get_or-drop i bs 0 0 in
    let b : get_or (drop i bs) 1 0 ≡ get_or bs (i + 1) 0 = get_or-drop i bs 1 0 in
    let z : get_or bs (i + 0) 0 ≡ get_or bs i 0 = ap (λ (k : ℕ). get_or bs k 0) (omega arith) in
    let y : get_or bs i 0 ≡ 0 = sym z ∙ (sym a ∙ e) in
    let f = h (omega arith) y in
    omega arith)

pub loop-start-preserved : goal.loop-start-preserved
loop-start-preserved c = record {
  within = omega arith;
  same = one_less c.args.bytes.now c.loop-start.start (omega arith) (omega arith) (omega arith) ∙ c.loop-start.invariant.same;
}

pub returns : goal.returns
returns c =
    let k : shorten (drop c.loop-start.start c.args.bytes.now) ≡ drop c.loop-start.start c.args.bytes.now = kept_from c.args.bytes.now c.loop-start.start
    (elim c.loop-start-test.branch [ then-loop-start-test+then-bytes-start-eq0+else-bytes-start-lt128 w ↦ λ l z. w.if-bytes-start-lt128.false | then-loop-start-test+else-bytes-start-eq0 w ↦ λ l z. absurd (w.if-bytes-start-eq0.false z) | else-loop-start-test w ↦ λ l z. absurd (omega arith) ]) in
    take_all (length c.args.bytes.now - c.loop-start.start) (drop c.loop-start.start c.args.bytes.now) (omega (arith, length-drop c.loop-start.start c.args.bytes.now)) ∙ (sym k ∙ c.loop-start.invariant.same)
