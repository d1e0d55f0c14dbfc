use Rattle.std.proofs.Common.{◌≡◌, ◌≢◌, ℕ, ◌/◌, ◌%◌, ◌<◌, get_or, drop, bit_xor}
use Rattle.tough_rsa.specs.Pss.{mask_block}
use Rattle.tough_rsa.proofs.Masks.{mask_at}
use Rattle.tough_rsa.proofs.pss.unmask.Given as goal

abbrev pub invariant-loop-i : goal.invariant-loop-i
invariant-loop-i l = record {
  done : (k : ℕ) → k < l.i → get_or l.masked k 0 ≡ bit_xor (get_or l.fn.masked k 0) (mask_at l.seed k);
  rest : drop l.i l.masked ≡ drop l.i l.fn.masked;
  block : l.i % 32 ≢ 0 → l.block ≡ mask_block l.seed (l.i / 32);
}
