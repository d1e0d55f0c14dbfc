use Rattle.std.proofs.Common.{rules, [], ◌++◌, ◌≡◌, Some, None, option_map, sym, ap, append-nil, subst}
use Rattle.std.proofs.lemmas.Result.{err_from_is_err_and}
use Rattle.std.specs.List.{filter_map}
use Rattle.tough_decoded.specs.Spelled.{Spelled}
use Rattle.tough_roles.specs.Signature.{signature_doc, signatures_doc}
use Rattle.tough_keys.specs.Key.{KeyDoc, key_doc}
use Rattle.tough_sign.specs.Making.{AreMade, IsMade, pick, chosen}
use Rattle.tough_roles.specs.Root.{keys_doc}
use Rattle.tough_sign.specs.Signers.{signers_of, ChosenFails}
use Rattle.tough_sign.proofs.Makings.{made_next, made_later, fails_next, fails_after}
use Rattle.tough_sign.proofs.signing.sign_under.Goals as goal

pub loop-keyid-init : goal.loop-keyid-init
loop-keyid-init g c =
    let picks = pick g.S.Sign.key (keys_doc c.args.known.now.entries) c.args.keyids.now (signers_of c.args.signers.now) in
    let all : keys_doc c.into_iter-keyid-iterator.result ≡ keys_doc c.args.known.now.entries = ap keys_doc (search rules) in (
      λ rest m. subst (λ ss. AreMade g.S.Sign.signs c.args.text.now (filter_map picks (keys_doc c.args.known.now.entries)) (signatures_doc ss ++ rest)) (sym c.new-signatures.ensures.items)
          (subst (λ es. AreMade g.S.Sign.signs c.args.text.now (filter_map picks es) rest) all m),
      λ t h. subst (λ es. ChosenFails g.S.Sign.fails (filter_map picks es) t) all h,
    )

pub loop-keyid-preserved-in-Continue-branch-3 : goal.loop-keyid-preserved-in-Continue-branch-3
loop-keyid-preserved-in-Continue-branch-3 g c =
    let e : Spelled × KeyDoc = (c.in-Some.keyid.now, key_doc c.in-Some.key.now) in
    let picks = pick g.S.Sign.key (keys_doc c.args.known.now.entries) c.args.keyids.now (signers_of c.args.signers.now) in
    let made : IsMade g.S.Sign.signs c.args.text.now (picks e) (Some (signature_doc c.in-Some-2.signature)) =
    subst (λ o. IsMade g.S.Sign.signs c.args.text.now (picks e) (option_map signature_doc o)) c.in-Some-2.is c.in_ok-signature.ensures.made in (
      λ rest m. made_next g.S.Sign.signs c.args.text.now picks e (keys_doc c.next.new.self) (keys_doc c.loop-keyid.keyid-iterator)
          c.loop-keyid.signatures.items c.push.new.self.items c.in-Some-2.signature rest (chosen g.S.Sign.key (keys_doc c.args.known.now.entries) c.args.keyids.now (signers_of c.args.signers.now))
          (ap keys_doc c.in-Some.ensures.steps) made c.in_ok-push.ensures.items c.loop-keyid.invariant.0 m,
      λ t h. c.loop-keyid.invariant.1 t (fails_after g.S.Sign.fails t picks e (keys_doc c.next.new.self) (keys_doc c.loop-keyid.keyid-iterator) (ap keys_doc c.in-Some.ensures.steps) h),
    )

pub loop-keyid-preserved : goal.loop-keyid-preserved
loop-keyid-preserved g c =
    let e : Spelled × KeyDoc = (c.in-Some.keyid.now, key_doc c.in-Some.key.now) in
    let picks = pick g.S.Sign.key (keys_doc c.args.known.now.entries) c.args.keyids.now (signers_of c.args.signers.now) in
    let made : IsMade g.S.Sign.signs c.args.text.now (picks e) None =
    subst (λ o. IsMade g.S.Sign.signs c.args.text.now (picks e) (option_map signature_doc o)) c.in_default.is c.in_ok-signature.ensures.made in (
      λ rest m. c.loop-keyid.invariant.0 rest (made_later g.S.Sign.signs c.args.text.now picks e (keys_doc c.next.new.self) (keys_doc c.loop-keyid.keyid-iterator) rest (ap keys_doc c.in-Some.ensures.steps) made m),
      λ t h. c.loop-keyid.invariant.1 t (fails_after g.S.Sign.fails t picks e (keys_doc c.next.new.self) (keys_doc c.loop-keyid.keyid-iterator) (ap keys_doc c.in-Some.ensures.steps) h),
    )

pub returns-in_err-signature-clause-failure : goal.returns-in_err-signature-clause-failure
returns-in_err-signature-clause-failure g c =
    let e : Spelled × KeyDoc = (c.in-Some.keyid.now, key_doc c.in-Some.key.now) in
    let picks = pick g.S.Sign.key (keys_doc c.args.known.now.entries) c.args.keyids.now (signers_of c.args.signers.now) in
    let p = err_from_is_err_and c.from_residual.result c.from_residual.ensures.1 in
    rw (p.1, p.2) (λ t r. c.loop-keyid.invariant.1 t (fails_next g.S.Sign.fails t picks e (keys_doc c.next.new.self) (keys_doc c.loop-keyid.keyid-iterator) (ap keys_doc c.in-Some.ensures.steps) (c.in_err-signature.ensures.failure t r)))

pub returns-clause-made : goal.returns-clause-made
returns-clause-made g c = subst (AreMade g.S.Sign.signs c.args.text.now (chosen g.S.Sign.key (keys_doc c.args.known.now.entries) c.args.keyids.now (signers_of c.args.signers.now))) (append-nil _) (c.loop-keyid.invariant.0 [] (subst (λ es. AreMade g.S.Sign.signs c.args.text.now (filter_map (pick g.S.Sign.key (keys_doc c.args.known.now.entries) c.args.keyids.now (signers_of c.args.signers.now)) (keys_doc es)) []) (sym c.in-None.ensures.steps.0) tt))
