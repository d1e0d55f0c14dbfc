-- Keys that signers told.
use Rattle.std.proofs.Common.{◌≡◌, ◌<◌, List, [], ◌∷◌, map, None, inl, inr, refl, ap, sym, subst, ◌∙◌}
use Rattle.std.specs.List.{Any}
use Rattle.std.proofs.lemmas.List.{length-map, get_or-map}
use Rattle.std.proofs.lemmas.List.Elements.{All-head, All-tail}
use Rattle.tough_keys.specs.Key.{KeyDoc, key_doc}
use Rattle.tough_sign.specs.Signers.{key_in, signers_of, AreKeyed}
use Rattle.tough_sign.specs.declared.signers.KeyedSigner.{KeyedSigner}
use Rattle.tough_signed.specs.declared.error.EditError.{EditError}
use Rattle.tough_edit.specs.Signers.{own_id, IsIdless, SomeIdless, keys_told}

pub idless_mapped : (P Q : Type 0) → (P → Q) → (e : EditError) → IsIdless P e → IsIdless Q e
idless_mapped P Q f e (inl m) = inl m
idless_mapped P Q f e (inr p) = inr (p.0, f p.1)

pub any_told : {S : Type 0} (key_of : S → KeyDoc) (ks : List (KeyedSigner S)) → AreKeyed key_of ks → SomeIdless ks → Any (λ x. own_id (key_of x) ≡ None) (signers_of ks)
any_told {S} key_of ks keyed h =
    let f : KeyedSigner S → S = λ k. k.signer.now in
    let i = h.0 in
    let x = h.1 in
    let key : key_doc (key_in x) ≡ key_of (f x) = subst (λ k. key_doc (key_in k) ≡ key_of (f k)) h.3 (keyed i x h.2) in
    (i, f x, subst (λ n. i < n) (sym (length-map ks f)) h.2, get_or-map f ks i x (f x) h.2 ∙ ap f h.3, subst (λ k. own_id k ≡ None) key h.4)

pub told_keys : {S : Type 0} (key_of : S → KeyDoc) (ks : List (KeyedSigner S)) → AreKeyed key_of ks → keys_told ks ≡ map key_of (signers_of ks)
told_keys key_of [] keyed = refl
told_keys {S} key_of (k ∷ ks) keyed =
    let P = λ (k : KeyedSigner S). key_doc (key_in k) ≡ key_of k.signer.now in
    ap (λ d. d ∷ keys_told ks) (All-head P k ks keyed) ∙ ap (λ l. key_of k.signer.now ∷ l) (told_keys key_of ks (All-tail P k ks keyed))

pub idless_told : {S : Type 0} (key_of : S → KeyDoc) (ks : List (KeyedSigner S)) (xs : List S) → signers_of ks ≡ xs → AreKeyed key_of ks → (e : EditError) → IsIdless (SomeIdless ks) e → IsIdless (Any (λ x. own_id (key_of x) ≡ None) xs) e
idless_told {S} key_of ks xs is keyed e h =
    let P : S → Type 0 = λ x. own_id (key_of x) ≡ None in
    idless_mapped (SomeIdless ks) (Any P xs) (λ h. subst (λ l. Any P l) is (any_told key_of ks keyed h)) e h

pub told_are : {S : Type 0} (key_of : S → KeyDoc) (ks shown : List (KeyedSigner S)) (xs : List S) → shown ≡ ks → signers_of ks ≡ xs → AreKeyed key_of ks → keys_told shown ≡ map key_of xs
told_are key_of ks shown xs same is keyed = ap keys_told same ∙ told_keys key_of ks keyed ∙ ap (map key_of) is
