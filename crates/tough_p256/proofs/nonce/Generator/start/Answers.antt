use Rattle.tough_p256.proofs.nonce.Generator.start.Goals as goal

pub returns : goal.returns
returns c = cc
