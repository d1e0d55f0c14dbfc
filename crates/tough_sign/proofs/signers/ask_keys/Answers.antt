use Rattle.tough_sign.proofs.Makings.{signers_next, keyed_next}
use Rattle.tough_sign.proofs.signers.ask_keys.Goals as goal

pub loop-signer-preserved : goal.loop-signer-preserved
loop-signer-preserved g c = record {
  signers = signers_next c.loop-signer.all.items c.push.new.self.items c.in_ok-keyed.keyed c.args.signers.now c.loop-signer.signer-index c.signer-item.result c.in_ok-push.ensures.items c.loop-signer-test.true c.signer-item.is c.loop-signer.invariant.signers c.in_ok-keyed.ensures.signer;
  keys = keyed_next g.S.Sign.key c.loop-signer.all.items c.push.new.self.items c.in_ok-keyed.keyed c.signer-item.result c.in_ok-push.ensures.items c.loop-signer.invariant.keys c.in_ok-keyed.ensures.signer c.in_ok-keyed.ensures.key;
}
