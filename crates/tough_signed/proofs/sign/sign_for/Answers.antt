use Rattle.std.proofs.Common.{◌≡◌, false, inl, inr, ap, sym, subst, ◌∙◌}
use Rattle.tough_roles.specs.Root.{role_keys_doc}
use Rattle.tough_json.specs.Results.{RefusesWrite}
use Rattle.tough_roles.specs.Chain.{text_by}
use Rattle.tough_sign.specs.Signers.{signers_of}
use Rattle.tough_signed.specs.Holders.{holder_doc, keys_for, are_strangers}
use Rattle.tough_signed.specs.Refusals.{IsUnwritable}
use Rattle.tough_signed.specs.declared.error.EditError.TheVariants as errors
use Rattle.tough_signed.proofs.Making.{short_of, signed_for}
use Rattle.tough_signed.proofs.sign.sign_for.Goals as goal

pub returns-in-Err-Unwritable-clause-refused : goal.returns-in-Err-Unwritable-clause-refused
returns-in-Err-Unwritable-clause-refused g c =
    let h = holder_doc c.args.holder.now in
    let signers = ap signers_of c.deref.ensures.value ∙ c.in_ok-keyed.ensures.signers in
    let known : are_strangers g.S.Sign.key h c.args.signers.now ≡ false = subst (λ l. are_strangers g.S.Sign.key h l ≡ false) signers c.in-Ok.ensures.known in
    let unwritable : IsUnwritable g.T.Role.json g.S.Sign.key g.S.Sign.fails h c.args.signers.now (g.T.Role.id c.args.role) c.args.role = record {
      asked = role_keys_doc c.in-Ok.keys;
      there = ap (keys_for h) (sym c.in_ok-id.ensures) ∙ c.in-Ok.ensures.keys;
      none = subst (λ e. RefusesWrite e (text_by g.T.Role.json c.args.role)) c.in-Err-Unwritable.field-0-is c.in-Err-Unwritable.ensures;
    } in
    inr (inr (known, inl (ap errors.SerializeRole c.TYPE-in-Err-Unwritable.ensures, unwritable)))

pub returns-in-Ok-enough_by-clause-signed : goal.returns-in-Ok-enough_by-clause-signed
returns-in-Ok-enough_by-clause-signed g c =
    let h = holder_doc c.args.holder.now in
    signed_for g.T.Role.json g.S.Sign.key g.S.Sign.signs h (g.T.Role.id c.args.role) (signers_of c.deref-2.result.now) c.args.signers.now c.TYPE-2.result g.T.Role.TYPE (record { signed = c.args.role; signatures = c.in-Ok-enough_by.signatures }) (role_keys_doc c.in-Ok.keys) c.in-Ok-canonical_form.text.items c.deref-3.result.now
    (ap signers_of c.deref-2.ensures.value ∙ c.in_ok-keyed.ensures.signers) c.TYPE-2.ensures c.deref-3.ensures.value (ap (keys_for h) (sym c.in_ok-id.ensures) ∙ c.in-Ok.ensures.keys) c.in-Ok-canonical_form.ensures c.in-Ok-enough_by.ensures.made c.in-Ok-enough_by.ensures.enough

pub returns-in-Err-enough_by-clause-refused : goal.returns-in-Err-enough_by-clause-refused
returns-in-Err-enough_by-clause-refused g c =
    let h = holder_doc c.args.holder.now in
    let signers = ap signers_of c.deref.ensures.value ∙ c.in_ok-keyed.ensures.signers in
    short_of g.T.Role.json g.S.Sign.key g.S.Sign.fails h (signers_of c.deref-2.result.now) c.args.signers.now (g.T.Role.id c.args.role) c.TYPE-2.result g.T.Role.TYPE c.args.role (role_keys_doc c.in-Ok.keys) c.in-Ok-canonical_form.text.items c.in-Err-enough_by.error
    (ap signers_of c.deref-2.ensures.value ∙ c.in_ok-keyed.ensures.signers) c.TYPE-2.ensures (ap (keys_for h) (sym c.in_ok-id.ensures) ∙ c.in-Ok.ensures.keys) c.in-Ok-canonical_form.ensures (subst (λ l. are_strangers g.S.Sign.key h l ≡ false) signers c.in-Ok.ensures.known) c.in-Err-enough_by.ensures.refused
