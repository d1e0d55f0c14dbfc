-- Signatures that were made, and why none were.
use Rattle.std.proofs.Common.{◌≡◌, ℕ, zero, suc, List, [], ◌∷◌, length, Bool, true, false, ◌&&◌, if◌then◌else◌, Option, option_map, Result, Ok, Err, ◌⊎◌, Some, None, ◌<◌, ◌≤◌, IfOk, IfErr, inl, inr, refl, ap, sym, subst, ◌∙◌, arith}
use Rattle.std.specs.List.{filter_map, cons_option}
use Rattle.tough_decoded.specs.Spelled.{Spelled}
use Rattle.tough_roles.specs.Signature.{SignatureDoc, signatures_doc}
use Rattle.tough_sign.specs.Making.{AreMade, Known, chosen, pick, is_listed, is_first, last_of}
use Rattle.tough_sign.proofs.Makings.{last_any}
use Rattle.tough_keys.specs.Failing.{IsReasoned}
use Rattle.tough_keys.specs.declared.sign.SignError.{SignError}
use Rattle.tough_keys.specs.declared.sign.SignError.TheVariants as signs
use Rattle.serde_json.specs.Data.{Data}
use Rattle.serde_json.specs.Read.{max_depth}
use Rattle.tough_roles.specs.Document.{document_json}
use Rattle.tough_roles.specs.Readable.{NestsWithin, IsTextOf}
use Rattle.tough_schema.specs.Targets.{delegated_doc, KeysAreOwn}
use Rattle.tough_roles.specs.declared.role_type.RoleType.{RoleType}
use Rattle.tough_roles.specs.declared.signed.Signed.{Signed}
use Rattle.tough_signed.specs.Refusals.{sign_error, IsFailure, IsUnasked, IsUnsigned, IsBelow, IsUnfiled, IsUnfiledAs, is_lenient}
use Rattle.tough_signed.specs.Holders.{HolderDoc, known_of, keys_for, are_strangers}
use Rattle.tough_signed.specs.declared.error.EditError.TheVariants as errors
use Rattle.tough_keys.specs.Key.{KeyDoc}
use Rattle.tough_roles.specs.RoleId.{RoleIdDoc}
use Rattle.tough_roles.specs.Root.{RoleKeysDoc}
use Rattle.tough_roles.specs.Chain.{text_by}
use Rattle.tough_sign.specs.Signers.{SomeFails, OneFails, ChosenFails}
use Rattle.tough_roles.specs.declared.role_type.RoleType.TheVariants as types
use Rattle.tough_schema.specs.Tree.{Entry}
use Rattle.tough_schema.specs.Whole.{HeldDoc}
use Rattle.tough_schema.specs.declared.targets.DelegatedTargets.{DelegatedTargets}
use Rattle.tough_signed.specs.Signing.{IsSignedFor, IsUnfiledSigned}
use Rattle.tough_signed.specs.Roles.{signed_of, buffer_of, IsWritten}
use Rattle.tough_signed.specs.Standing.{IsAlone, IsStanding, IsUnfiledAlone, json_of, is_read_as}
use Rattle.tough_signed.specs.declared.signed_role.SignedRole.{SignedRole}
use Rattle.tough_signed.specs.declared.error.EditError.{EditError}

-- as many signatures are made as are signers
pub made_length : {S : Type 0} (signs : S → List ℕ → List ℕ → Type 0) (text : List ℕ) (cs : List (Spelled × S)) (ss : List SignatureDoc) → AreMade signs text cs ss → length ss ≡ length cs
made_length signs text [] [] m = refl
made_length signs text [] (s ∷ ss) m = absurd m
made_length signs text (c ∷ cs) [] m = absurd m
made_length signs text (c ∷ cs) (s ∷ ss) m = ap suc (made_length signs text cs ss m.2)

-- a signer's failure is one
pub failure : (fails : List ℕ → Type 0) (e : SignError) → IsReasoned fails e → IsFailure fails (sign_error e)
failure fails (signs.Failed reason) h = h _ refl
failure fails signs.Memory h = tt

-- ---- who signs is one of the signers

module _ {S : Type 0} (key_of : S → KeyDoc) (fails : S → List ℕ → Type 0) (t : List ℕ) (known : Known) (ids : List Spelled) (xs : List S) where
  found_at : (id : Spelled) (b : Bool) (l : Option S) (c : Spelled × S) → (if b then option_map (λ x. (id, x)) l else None) ≡ Some c → Some c.1 ≡ l
  found_at id true None c q = cc
  found_at id true (Some x) c q = sym (ap (option_map (λ p. p.1)) q)
  found_at id false l c q = cc

  one_some : (e : Spelled × KeyDoc) (o : Option (Spelled × S)) → pick key_of known ids xs e ≡ o → OneFails fails o t → SomeFails fails xs t
  one_some e None q h = absurd h
  one_some e (Some c) q h = last_any key_of (λ x. fails x t) e.1 xs c.1 (found_at e.0 (is_listed ids e.0 && is_first known e.0 e.1) (last_of key_of e.1 xs) c q) h

  either : (o : Option (Spelled × S)) (cs : List (Spelled × S)) → ChosenFails fails (cons_option o cs) t → OneFails fails o t ⊎ ChosenFails fails cs t
  either None cs h = inr h
  either (Some c) cs (zero, x, l, e, h) = inl (subst (λ y. fails y.1 t) (sym e) h)
  either (Some c) cs (suc i, x, l, e, h) = inr (i, x, omega (arith, l), e, h)

  chosen_of : (es : Known) → ChosenFails fails (filter_map (pick key_of known ids xs) es) t → SomeFails fails xs t
  chosen_of [] (i, x, l, e, h) = absurd (omega (arith, l))
  chosen_of (e ∷ es) h = go (chosen_of es) (either (pick key_of known ids xs e) (filter_map (pick key_of known ids xs) es) h)
    where
      go : (ChosenFails fails (filter_map (pick key_of known ids xs) es) t → SomeFails fails xs t) → OneFails fails (pick key_of known ids xs e) t ⊎ ChosenFails fails (filter_map (pick key_of known ids xs) es) t → SomeFails fails xs t
      go ih (inl f) = one_some e (pick key_of known ids xs e) refl f
      go ih (inr k) = ih k

  pub chosen_some : ChosenFails fails (chosen key_of known ids xs) t → SomeFails fails xs t
  chosen_some h = chosen_of known h

-- a document of the role that has no text is one of the role with some signatures
pub unfiled_as : {T X : Type 0} (json : T → Option Data) (type : RoleType) (s : Signed T) (role : T) → s.signed ≡ role → (r : Result X EditError) → IfErr r (IsUnfiled json type s) → IfErr r (IsUnfiledAs json type role)
unfiled_as json type s role is (Ok x) h = h
unfiled_as json type s role is (Err e) h = inr (s, is, h)

-- a role that was signed, whose document has no text
pub unfiled_signed : {T X S : Type 0} (json : T → Option Data) (type : RoleType) (key_of : S → KeyDoc) (signs : S → List ℕ → List ℕ → Type 0) (h : HolderDoc) (i : RoleIdDoc) (xs : List S) (s : Signed T) (role : T) → s.signed ≡ role
    → IsSignedFor json type key_of signs h i xs s → (r : Result X EditError) → IfErr r (IsUnfiled json type s) → IfErr r (IsUnfiledSigned json type key_of signs h i xs role)
unfiled_signed json type key_of signs h i xs s role is by (Ok x) k = k
unfiled_signed json type key_of signs h i xs s role is by (Err e) k = (s, is, by, k)

-- why there are no keys, of equal signers, roles and kinds
pub unasked_at : {S : Type 0} (key_of : S → KeyDoc) (h : HolderDoc) (xs ys : List S) (i j : RoleIdDoc) (s t : RoleType) (e : EditError) → xs ≡ ys → i ≡ j → s ≡ t → IsUnasked key_of h xs i s e → IsUnasked key_of h ys j t e
unasked_at key_of h xs ys i j s t e p q r u =
    subst (λ l. IsUnasked key_of h l j t e) p (subst (λ a. IsUnasked key_of h xs a t e) q (subst (λ a. IsUnasked key_of h xs i a e) r u))

-- too few signers
pub short_of : {T S : Type 0} (json : T → Option Data) (key_of : S → KeyDoc) (fails : S → List ℕ → Type 0) (h : HolderDoc) (xs ys : List S) (i : RoleIdDoc) (s t : RoleType) (role : T) (asked : RoleKeysDoc) (text : List ℕ) (e : EditError)
    → xs ≡ ys → s ≡ t → keys_for h i ≡ Some asked → text_by json role ≡ Some text → are_strangers key_of h ys ≡ false → IsBelow fails xs s (length (chosen key_of (known_of h) asked.keyids xs)) asked.threshold e → IsUnsigned json key_of fails h ys i t role e
short_of json key_of fails h xs ys i s t role asked text e p q there canonical known (inl f) = inl (subst (λ l. IsFailure (SomeFails fails l) e) p f)
short_of json key_of fails h xs ys i s t role asked text e p q there canonical known (inr b) =
    inr (inr (
      known,
      inr (
        b.0 ∙ ap errors.SigningKeysNotFound q,
        record {
          asked = asked;
          there = there;
          strict = ap is_lenient (sym q) ∙ b.1;
          text = text;
          canonical = canonical;
          few = subst (λ l. length (chosen key_of (known_of h) asked.keyids l) < asked.threshold) p b.2;
        },
      ),
    ))

-- a document by itself that has no text
pub unfiled_alone : {X : Type 0} (e : Entry) (h : HeldDoc) (s : Signed DelegatedTargets) → IsAlone e h s → (r : Result X EditError) → IfErr r (IsUnfiled json_of types.DelegatedTargets s) → IfErr r (IsUnfiledAlone e h)
unfiled_alone e h s a (Ok x) k = k
unfiled_alone e h s a (Err error) k = inr (s, a, k)

-- a role that isn't signed, or that has no text
pub unsigned_or : {X : Type 0} (P Q : EditError → Type 0) (r : Result X EditError) → IfErr r Q → IfErr r (λ e. P e ⊎ Q e)
unsigned_or P Q (Ok x) h = h
unsigned_or P Q (Err e) h = inr h

-- a role that is signed, of its parts
pub signed_for : {T S : Type 0} (json : T → Option Data) (key_of : S → KeyDoc) (signs : S → List ℕ → List ℕ → Type 0) (h : HolderDoc) (i : RoleIdDoc) (xs ys : List S) (s t : RoleType) (doc : Signed T) (asked : RoleKeysDoc) (text shown : List ℕ)
    → xs ≡ ys → s ≡ t → shown ≡ text → keys_for h i ≡ Some asked → text_by json doc.signed ≡ Some text → AreMade signs shown (chosen key_of (known_of h) asked.keyids xs) (signatures_doc doc.signatures.items)
    → (is_lenient s ≡ false → asked.threshold ≤ length (signatures_doc doc.signatures.items)) → IsSignedFor json t key_of signs h i ys doc
signed_for json key_of signs h i xs ys s t doc asked text shown p q r there canonical made enough =
    let sigs = signatures_doc doc.signatures.items in
    let by : AreMade signs text (chosen key_of (known_of h) asked.keyids ys) sigs =
    subst (λ l. AreMade signs text (chosen key_of (known_of h) asked.keyids l) sigs) p (subst (λ x. AreMade signs x (chosen key_of (known_of h) asked.keyids xs) sigs) r made) in
    record {
      asked = asked;
      there = there;
      text = text;
      canonical = canonical;
      made = by;
      enough = λ strict. subst (λ n. asked.threshold ≤ n) (made_length signs text (chosen key_of (known_of h) asked.keyids ys) sigs by) (enough (ap is_lenient q ∙ strict));
    }

-- a document by itself that has a file
pub standing_of : (e : Entry) (h : HeldDoc) (s : Signed DelegatedTargets) → IsAlone e h s → (r : Result (SignedRole DelegatedTargets) EditError) → IfOk r (λ x. signed_of x ≡ s) → IfOk r (IsWritten json_of)
    → (KeysAreOwn (delegated_doc s.signed).delegations → NestsWithin max_depth (document_json json_of s) → IfOk r (λ x. IsTextOf is_read_as s (buffer_of x))) → IfOk r (IsStanding e h)
standing_of e h s a (Ok x) is file back = record {
  alone = subst (IsAlone e h) (sym is) a;
  file = file;
  back = λ own within. subst (λ y. IsTextOf is_read_as y (buffer_of x)) (sym is) (back (subst (λ (y : Signed DelegatedTargets). KeysAreOwn (delegated_doc y.signed).delegations) is own) (subst (λ y. NestsWithin max_depth (document_json json_of y)) is within));
}
standing_of e h s a (Err error) is file back = tt
