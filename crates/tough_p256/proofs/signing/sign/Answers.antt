use Rattle.std.proofs.Common.{◌≡◌, true}
use Rattle.tough_p256.specs.Signing.{is_secret}
use Rattle.tough_p256.proofs.Verified.{verified}
use Rattle.tough_p256.proofs.signing.sign.Goals as goal

pub returns-clause-verifies : goal.returns-clause-verifies
returns-clause-verifies c =
    let s : is_secret c.args.secret.now ≡ true = cc in
    verified c.args.secret.now c.key_at.result c.args.message.now c.halves_of-found.result c.if_verifies.result s c.key_at.ensures c.if_verifies.ensures
