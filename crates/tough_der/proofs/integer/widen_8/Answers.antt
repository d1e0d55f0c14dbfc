use Rattle.std.proofs.Common.{◌≡◌, ℕ, ◌-◌, length, take, replicate, arith, refl}
use Rattle.std.proofs.lemmas.Bool.{le-ltb}
use Rattle.std.proofs.lemmas.List.{take-replicate}
use Rattle.tough_der.specs.Reading.{widen}
use Rattle.tough_der.proofs.integer.widen_8.Goals as goal

pub returns : goal.returns
unfolding widen
returns c =
    let f : c.split_at_mut-tail.result.0.now ≡ take (8 - length c.args.bytes.now) (replicate 8 0) = c.split_at_mut-tail.ensures.front in
    let z : take (8 - length c.args.bytes.now) (replicate 8 0) ≡ replicate (8 - length c.args.bytes.now) 0 = take-replicate {X = ℕ} (8 - length c.args.bytes.now) 8 0 (omega arith) in
    let a : c.copy_from_slice.new.self ≡ c.args.bytes.now = c.copy_from_slice.ensures.after in
    let b = le-ltb 8 (length c.args.bytes.now) (omega arith) in
    rw (b, f, z, a) refl
