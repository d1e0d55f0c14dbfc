use Rattle.std.proofs.Common.{◌≡◌, ◌++◌, drop}
use Rattle.tough_sign.specs.Laying.{lay}
use Rattle.tough_sign.specs.declared.layout.Place.TheVariants as places
use Rattle.tough_sign.proofs.layout.laid_out.Given as goal

abbrev pub invariant-loop-byte : goal.invariant-loop-byte
invariant-loop-byte l = lay places.Start 0 l.text ≡ l.out.items ++ lay l.place l.depth (drop l.byte-index l.text)
