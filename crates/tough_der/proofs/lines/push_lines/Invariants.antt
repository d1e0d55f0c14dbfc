use Rattle.std.proofs.Common.{◌≡◌, ◌≤◌, ◌++◌, drop, string_bytes}
use Rattle.tough_der.specs.Pem.{in_lines}
use Rattle.tough_der.proofs.lines.push_lines.Given as goal

abbrev pub invariant-loop-symbol : goal.invariant-loop-symbol
invariant-loop-symbol l = record {
  fits : l.room ≤ 64;
  same : string_bytes l.text ++ in_lines l.room (drop l.symbol-index l.fn.symbols) ≡ string_bytes l.initial.text ++ in_lines 64 l.fn.symbols;
}
