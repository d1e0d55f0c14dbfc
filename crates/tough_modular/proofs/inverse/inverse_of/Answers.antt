use Rattle.std.proofs.Common.{◌^◌, refl, arith}
use Rattle.tough_modular.proofs.inverse.inverse_of.Goals as goal

pub returns : goal.returns
returns c =
    let a = c.refine-of_4.ensures 2 (2 ^ 62) refl (omega arith) in
    let b = c.refine-of_16.ensures 4 (2 ^ 60) refl a in
    let d = c.refine-of_256.ensures 16 (2 ^ 56) refl b in
    let e = c.refine-of_65536.ensures 256 (2 ^ 48) refl d in
    let f = c.refine-of_half.ensures 65536 (2 ^ 32) refl e in
    c.refine.ensures (2 ^ 32) 1 refl f
