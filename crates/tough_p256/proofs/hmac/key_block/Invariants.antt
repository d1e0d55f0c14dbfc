use Rattle.std.proofs.Common.{◌≡◌, ℕ, ◌<◌, ◌≤◌, length, get_or, bit_xor}
use Rattle.tough_p256.proofs.hmac.key_block.Given as goal

abbrev pub invariant-loop-i : goal.invariant-loop-i
invariant-loop-i l = record {
  size : length l.block ≡ 64;
  done : (k : ℕ) → k < l.i → get_or l.block k 0 ≡ bit_xor (get_or l.key k 0) l.byte;
  rest : (k : ℕ) → l.i ≤ k → k < 64 → get_or l.block k 0 ≡ l.byte;
}
