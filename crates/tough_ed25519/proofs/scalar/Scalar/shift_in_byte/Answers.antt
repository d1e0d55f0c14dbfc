use Rattle.tough_ed25519.proofs.Remainders.{byte_more}
use Rattle.tough_ed25519.proofs.scalar.Scalar.shift_in_byte.Goals as goal

pub loop-done-preserved : goal.loop-done-preserved
loop-done-preserved c =
    let more = byte_more c.loop-done.done c.args.self.now c.args.byte c.loop-done.answer c.loop-done-test.true c.loop-done.invariant in
    cc
