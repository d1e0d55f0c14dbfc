use Rattle.std.proofs.Common.{◌≡◌, take, nat_eq, true}
use Rattle.std.specs.List.{list_all}
use Rattle.tough_rsa.proofs.pss.is_zero.Given as goal

abbrev pub invariant-loop-i : goal.invariant-loop-i
invariant-loop-i l = list_all (λ b. nat_eq b 0) (take l.i l.bytes) ≡ true
