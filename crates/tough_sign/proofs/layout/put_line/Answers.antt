use Rattle.std.proofs.Common.{◌≡◌, ℕ, List, [], ◌∷◌, ◌+◌, ◌*◌, ◌++◌, replicate, ap, ◌∙◌, append_assoc, arith}
use lib.ListN.{replicate-append-replicate}
use Rattle.tough_sign.proofs.layout.put_line.Goals as goal

pub loop-preserved : goal.loop-preserved
loop-preserved c =
    let two : List ℕ = 32 ∷ 32 ∷ [] in
    let more : 2 * c.loop.counter + 2 ≡ 2 * (c.loop.counter + 1) = omega arith in
    c.in_ok-extend_from_slice.ensures.items ∙ ap (λ l. l ++ two) c.loop.invariant ∙ append_assoc _ (replicate (2 * c.loop.counter) 32) two
    ∙ ap (λ (l : List ℕ). c.push.new.self.items ++ l) (replicate-append-replicate (2 * c.loop.counter) 2 32 ∙ ap (λ n. replicate n 32) more)
