use Rattle.std.proofs.Common.{arith, ap, sym, ◌∙◌, ◌+◌, ◌*◌, ◌^◌, ℕ, nat_eq}
use Rattle.tough_ed25519.proofs.Bits.{low, low_2, low_3, low_4}
use Rattle.tough_ed25519.proofs.field.words.Words.bit.Goals as goal

pub returns-then-index-lt64 : goal.returns-then-index-lt64
returns-then-index-lt64 c =
    let w = c.args.self in
    c.bit_of.ensures ∙ ap (λ (x : ℕ). nat_eq x 1) (sym (low w.first (w.second + 2 ^ 64 * (w.third + 2 ^ 64 * w.fourth)) c.args.index (omega arith)))

pub returns-then-index-lt128 : goal.returns-then-index-lt128
returns-then-index-lt128 c =
    let w = c.args.self in
    c.bit_of-then-index-lt128.ensures ∙ ap (λ (x : ℕ). nat_eq x 1) (sym (low_2 w.first w.second (w.third + 2 ^ 64 * w.fourth) c.args.index (omega arith) (omega arith) (omega arith)))

pub returns-then-index-lt192 : goal.returns-then-index-lt192
returns-then-index-lt192 c =
    let w = c.args.self in
    c.bit_of-then-index-lt192.ensures ∙ ap (λ (x : ℕ). nat_eq x 1) (sym (low_3 w.first w.second w.third w.fourth c.args.index (omega arith) (omega arith) (omega arith) (omega arith)))

pub returns-else-index-lt192 : goal.returns-else-index-lt192
returns-else-index-lt192 c =
    let w = c.args.self in
    c.bit_of-else-index-lt192.ensures ∙ ap (λ (x : ℕ). nat_eq x 1) (sym (low_4 w.first w.second w.third w.fourth c.args.index (omega arith) (omega arith) (omega arith) (omega arith)))
