use Rattle.std.proofs.Common.{◌≡◌, ◌≤◌, length, take}
use Rattle.tough_der.specs.Pem.{squeezed}
use Rattle.tough_der.proofs.pem.squeeze.Given as goal

abbrev pub invariant-loop-byte : goal.invariant-loop-byte
invariant-loop-byte l = record {
  room : l.len ≤ length l.symbols;
  count : l.len ≡ length (squeezed (take l.byte-index l.text));
  same : take l.len l.symbols ≡ squeezed (take l.byte-index l.text);
}
