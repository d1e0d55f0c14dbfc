use Rattle.std.proofs.Common.{rules, ◌≡◌, true}
use Rattle.std.proofs.lemmas.Result.{err_from_is_err_and}
use Rattle.tough_keys.specs.Key.{key_doc}
use Rattle.tough_roles.specs.Root.{keys_doc}
use Rattle.tough_sign.specs.Making.{is_listed, is_first}
use Rattle.tough_sign.specs.Signers.{signers_of}
use Rattle.tough_sign.proofs.Makings.{one_fails}
use Rattle.tough_sign.proofs.signing.sign_one.Goals as goal

pub returns-in_err-signature_by-in-Some-clause-failure : goal.returns-in_err-signature_by-in-Some-clause-failure
returns-in_err-signature_by-in-Some-clause-failure g c =
    let p = err_from_is_err_and c.from_residual.result c.from_residual.ensures.1 in
    let listed : is_listed c.args.keyids.now c.args.keyid.now ≡ true = search rules in
    let first : is_first (keys_doc c.args.known.now.entries) c.args.keyid.now (key_doc c.args.key.now) ≡ true = search rules in
    rw (p.1, p.2) (λ t r. one_fails g.S.Sign.fails t g.S.Sign.key (keys_doc c.args.known.now.entries) c.args.keyids.now (signers_of c.args.signers.now) (c.args.keyid.now, key_doc c.args.key.now) c.in-Some.signer.now listed first c.in-Some.ensures (c.in_err-signature_by-in-Some.ensures.failure t r))
