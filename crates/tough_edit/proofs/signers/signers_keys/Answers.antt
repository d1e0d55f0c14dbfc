use Rattle.std.proofs.Common.{[], inr, subst, ap, ◌∙◌}
use Rattle.tough_edit.specs.Signers.{AreIds, IsIdless, SomeIdless, own_keys}
use Rattle.tough_edit.proofs.Told.{idless_told, told_are}
use Rattle.tough_edit.proofs.signers.signers_keys.Goals as goal

pub returns-in-Err-clause-refused : goal.returns-in-Err-clause-refused
returns-in-Err-clause-refused g c =
    inr (idless_told g.S.Sign.key c.in_ok-told.told.items c.args.signers.now c.in_ok-told.ensures.signers c.in_ok-told.ensures.keys c.in-Err.error (subst (λ l. IsIdless (SomeIdless l) c.in-Err.error) c.deref.ensures.value c.in-Err.ensures.refused))

pub returns-clause-refused : goal.returns-clause-refused
returns-clause-refused g c =
    inr (idless_told g.S.Sign.key c.in_ok-told.told.items c.args.signers.now c.in_ok-told.ensures.signers c.in_ok-told.ensures.keys c.in-Err-own_keys.error (subst (λ l. IsIdless (SomeIdless l) c.in-Err-own_keys.error) c.deref-2.ensures.value c.in-Err-own_keys.ensures.refused))

pub returns-in-Ok-own_keys-clause-ids : goal.returns-in-Ok-own_keys-clause-ids
returns-in-Ok-own_keys-clause-ids g c =
    subst (λ keys. AreIds keys c.in-Ok.keyids.items) (told_are g.S.Sign.key c.in_ok-told.told.items c.deref.result.now c.args.signers.now c.deref.ensures.value c.in_ok-told.ensures.signers c.in_ok-told.ensures.keys) c.in-Ok.ensures.ids

pub returns-in-Ok-own_keys-clause-keys : goal.returns-in-Ok-own_keys-clause-keys
returns-in-Ok-own_keys-clause-keys g c =
    c.in-Ok-own_keys.ensures.keys ∙ ap (own_keys []) (told_are g.S.Sign.key c.in_ok-told.told.items c.deref-2.result.now c.args.signers.now c.deref-2.ensures.value c.in_ok-told.ensures.signers c.in_ok-told.ensures.keys)
