-- One more signature.
use Rattle.std.proofs.Common.{◌≡◌, ℕ, suc, ◌+◌, ◌<◌, length, take, get_or, add-one, List, [], ◌∷◌, ◌++◌, Bool, true, false, cond, Option, Some, None, refl, sym, ap, ◌∙◌, subst, append_assoc, arith}
use Rattle.std.specs.List.{filter_map, cons_option, All, Any}
use Rattle.std.proofs.Math.Seq.{take-suc}
use Rattle.std.proofs.lemmas.List.{map-append}
use Rattle.std.proofs.lemmas.List.Elements.{All-append, All-cons, All-nil}
use Rattle.tough_keys.specs.Key.{KeyDoc, key_doc}
use Rattle.tough_sign.specs.declared.signers.KeyedSigner.{KeyedSigner}
use Rattle.tough_sign.specs.Signers.{signers_of, AreKeyed, OneFails, ChosenFails}
use Rattle.tough_decoded.specs.Spelled.{Spelled}
use Rattle.tough_roles.specs.Signature.{SignatureDoc, signature_doc, signatures_doc}
use Rattle.tough_roles.specs.declared.signature.Signature.{Signature}
use Rattle.tough_keys.specs.Equal.{same_doc}
use Rattle.tough_sign.specs.Making.{AreMade, IsMade, if_of, or_before, last_of, is_listed, is_first, pick}

module _ {S : Type 0} (signs : S → List ℕ → List ℕ → Type 0) (text : List ℕ) where
  made_at : (o : Option (Spelled × S)) (s : SignatureDoc) (cs : List (Spelled × S)) (rest : List SignatureDoc) → IsMade signs text o (Some s) → AreMade signs text cs rest → AreMade signs text (cons_option o cs) (s ∷ rest)
  made_at None s cs rest m n = absurd m
  made_at (Some c) s cs rest m n = (m.0, m.1, n)

  -- the signature of the next key is made, and so is the rest
  pub made_next : (pick : Spelled × KeyDoc → Option (Spelled × S)) (e : Spelled × KeyDoc) (es all : List (Spelled × KeyDoc)) (before after : List Signature) (s : Signature) (rest : List SignatureDoc) (goal : List (Spelled × S))
      → all ≡ e ∷ es → IsMade signs text (pick e) (Some (signature_doc s)) → after ≡ before ++ s ∷ []
      → ((r : List SignatureDoc) → AreMade signs text (filter_map pick all) r → AreMade signs text goal (signatures_doc before ++ r)) → AreMade signs text (filter_map pick es) rest → AreMade signs text goal (signatures_doc after ++ rest)
  made_next pick e es all before after s rest goal is made grown k m =
      subst (λ l. AreMade signs text goal (l ++ rest)) (sym (ap signatures_doc grown ∙ map-append signature_doc before (s ∷ [])))
      (subst (AreMade signs text goal) (sym (append_assoc (signatures_doc before) (signature_doc s ∷ []) rest))
      (k (signature_doc s ∷ rest) (subst (λ l. AreMade signs text (filter_map pick l) (signature_doc s ∷ rest)) (sym is) (made_at (pick e) (signature_doc s) (filter_map pick es) rest made m))))

  made_none : (o : Option (Spelled × S)) (cs : List (Spelled × S)) (rest : List SignatureDoc) → IsMade signs text o None → AreMade signs text cs rest → AreMade signs text (cons_option o cs) rest
  made_none None cs rest m n = n
  made_none (Some c) cs rest m n = absurd m

  -- under the next key nobody signs
  pub made_later : (pick : Spelled × KeyDoc → Option (Spelled × S)) (e : Spelled × KeyDoc) (es all : List (Spelled × KeyDoc)) (rest : List SignatureDoc) → all ≡ e ∷ es → IsMade signs text (pick e) None
      → AreMade signs text (filter_map pick es) rest → AreMade signs text (filter_map pick all) rest
  made_later pick e es all rest is made m = subst (λ l. AreMade signs text (filter_map pick l) rest) (sym is) (made_none (pick e) (filter_map pick es) rest made m)

-- one more signer with its key
pub signers_next : {S : Type 0} (ks all : List (KeyedSigner S)) (k : KeyedSigner S) (xs : List S) (i : ℕ) (x : S) → all ≡ ks ++ k ∷ [] → i < length xs → x ≡ get_or xs i x → signers_of ks ≡ take i xs → k.signer.now ≡ x → signers_of all ≡ take (i + 1) xs
signers_next ks all k xs i x is below at before here =
    ap signers_of is ∙ (map-append (λ k. k.signer.now) ks (k ∷ []) ∙ (ap (λ l. l ++ k.signer.now ∷ []) before ∙ (ap (λ y. take i xs ++ y ∷ []) (here ∙ at) ∙ (sym (take-suc xs i x below) ∙ ap (λ n. take n xs) (sym (add-one i))))))

pub keyed_next : {S : Type 0} (key_of : S → KeyDoc) (ks all : List (KeyedSigner S)) (k : KeyedSigner S) (x : S) → all ≡ ks ++ k ∷ [] → AreKeyed key_of ks → k.signer.now ≡ x → key_doc k.key ≡ key_of x → AreKeyed key_of all
keyed_next key_of ks all k x is before here key =
    let P = λ (k : KeyedSigner _). key_doc k.key ≡ key_of k.signer.now in
    subst (All P) (sym is) (All-append P ks (k ∷ []) before (All-cons P k [] (key ∙ ap key_of (sym here)) (All-nil P)))

-- a signer that is found among the later ones is among all
later_any : {S : Type 0} (P : S → Type 0) (x : S) (xs : List S) → Any P xs → Any P (x ∷ xs)
later_any P x xs h = (suc h.0, h.1, omega (arith, h.2), h.3, h.4)

module _ {S : Type 0} (key_of : S → KeyDoc) (P : S → Type 0) (key : KeyDoc) where
  here_any : (y : S) (ys : List S) (x : S) (b : Bool) → cond b (Some y) None ≡ Some x → P x → Any P (y ∷ ys)
  here_any y ys x true e h = let same : y ≡ x = cc in (0, y, omega arith, refl, subst P (sym same) h)
  here_any y ys x false e h = cc

  -- what holds of the last signer of a key holds of some signer
  last_any-from : (xs : List S) (x : S) → last_of key_of key xs ≡ Some x → P x → Any P xs
  last_any-from [] x e h = cc
  last_any-from (y ∷ ys) x e h = go (last_any-from ys x) (last_of key_of key ys) refl e
    where
      go : (last_of key_of key ys ≡ Some x → P x → Any P ys) → (o : Option S) → last_of key_of key ys ≡ o → or_before o (if_of key_of key y) ≡ Some x → Any P (y ∷ ys)
      go ih None q r = here_any y ys x (same_doc key (key_of y)) r h
      go ih (Some z) q r = later_any P y ys (ih (q ∙ r) h)

  pub last_any : (xs : List S) (x : S) → Some x ≡ last_of key_of key xs → P x → Any P xs
  last_any xs x e h = last_any-from xs x (sym e) h

-- ---- who signs may fail

module _ {S : Type 0} (fails : S → List ℕ → Type 0) (t : List ℕ) where
  pub one_fails : (key_of : S → KeyDoc) (known : List (Spelled × KeyDoc)) (ids : List Spelled) (xs : List S) (e : Spelled × KeyDoc) (x : S) → is_listed ids e.0 ≡ true → is_first known e.0 e.1 ≡ true → Some x ≡ last_of key_of e.1 xs
      → fails x t → OneFails fails (pick key_of known ids xs e) t
  one_fails key_of known ids xs e x l f s h = rw (l, f, ← s) h

  fails_here : (o : Option (Spelled × S)) (cs : List (Spelled × S)) → OneFails fails o t → ChosenFails fails (cons_option o cs) t
  fails_here None cs h = absurd h
  fails_here (Some c) cs h = (0, c, omega arith, refl, h)

  fails_later : (o : Option (Spelled × S)) (cs : List (Spelled × S)) → ChosenFails fails cs t → ChosenFails fails (cons_option o cs) t
  fails_later None cs h = h
  fails_later (Some c) cs h = later_any (λ c. fails c.1 t) c cs h

  -- a failure under the next key, or under one after it, is one under these keys
  pub fails_next : (pick : Spelled × KeyDoc → Option (Spelled × S)) (e : Spelled × KeyDoc) (es all : List (Spelled × KeyDoc)) → all ≡ e ∷ es → OneFails fails (pick e) t → ChosenFails fails (filter_map pick all) t
  fails_next pick e es all is h = subst (λ l. ChosenFails fails (filter_map pick l) t) (sym is) (fails_here (pick e) (filter_map pick es) h)

  pub fails_after : (pick : Spelled × KeyDoc → Option (Spelled × S)) (e : Spelled × KeyDoc) (es all : List (Spelled × KeyDoc)) → all ≡ e ∷ es → ChosenFails fails (filter_map pick es) t → ChosenFails fails (filter_map pick all) t
  fails_after pick e es all is h = subst (λ l. ChosenFails fails (filter_map pick l) t) (sym is) (fails_later (pick e) (filter_map pick es) h)
