use Rattle.std.proofs.Common.{◌≡◌, None, ap, sym, ◌∙◌}
use Rattle.tough_keys.specs.Key.{key_doc}
use Rattle.tough_edit.specs.Signers.{own_id, SomeIdless}
use Rattle.tough_edit.proofs.Told.{idless_mapped}
use Rattle.tough_edit.proofs.signers.own_keys.Goals as goal

pub returns-in-Err-clause-refused : goal.returns-in-Err-clause-refused
returns-in-Err-clause-refused g c =
    idless_mapped (own_id (key_doc c.key.result.now) ≡ None) (SomeIdless c.args.signers.now)
    (λ p. (c.loop-signer.signer-index, c.signer-item.result, c.loop-signer-test.true, sym c.signer-item.is, ap (λ k. own_id (key_doc k)) (sym c.key.ensures) ∙ p)) c.in-Err.error c.in-Err.ensures.refused
