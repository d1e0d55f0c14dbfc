-- What is written for a signed document is read as it.
use Rattle.std.proofs.Common.{◌≡◌, ℕ, Result, Ok, Err, List, codes, Option, Some, None, inl, inr, refl, sym, subst}
use Rattle.serde_json.specs.Data.{Data, array, object, no_members}
use Rattle.tough_json.specs.Reading.{◌>>=◌, hexadecimal, listing}
use Rattle.tough_json.specs.Writing.{with, hexadecimal_json, all_json}
use Rattle.tough_json.proofs.lemmas.Write.{bind_ok, some-inj, required-with, hexadecimal-back, all-back}
use Rattle.tough_roles.specs.Signature.{SignatureDoc, signature_at, signature_json, signed_parts, signed_parts_json, signed_at, signed_doc}
use Rattle.tough_roles.specs.declared.signed.Signed.{Signed}
use Rattle.tough_json.specs.Results.{json_of, Refuses}
use Rattle.tough_json.specs.Told.{TellsUnder}
use Rattle.tough_json.specs.declared.error.ReadError.{ReadError}
use Rattle.tough_json.specs.declared.error.ReadError.TheVariants as errors
use Rattle.tough_roles.specs.Document.{IsSigned, IsNotSigned, RefusesValue, ReadsValue, ReadsText}

pub signature-back : (s : SignatureDoc) (d : Data) → signature_json s ≡ Some d → signature_at d ≡ Some s
unfolding signature_json signature_at
signature-back s d w =
    let a = bind_ok (hexadecimal_json s.sig) (λ x. with (codes "sig") x no_members >>= λ m. hexadecimal_json s.keyid >>= λ id. with (codes "keyid") id m >>= λ ms. Some (object ms)) d w in
    let b = bind_ok (with (codes "sig") a.0 no_members) (λ m. hexadecimal_json s.keyid >>= λ id. with (codes "keyid") id m >>= λ ms. Some (object ms)) d a.2 in
    let c = bind_ok (hexadecimal_json s.keyid) (λ id. with (codes "keyid") id b.0 >>= λ ms. Some (object ms)) d b.2 in
    let e = bind_ok (with (codes "keyid") c.0 b.0) (λ ms. Some (object ms)) d c.2 in
    rw (
      ← some-inj e.2,
      required-with (codes "keyid") hexadecimal c.0 b.0 e.0 s.keyid e.1 (hexadecimal-back s.keyid c.0 c.1),
      required-with (codes "sig") hexadecimal a.0 no_members b.0 s.sig b.1 (hexadecimal-back s.sig a.0 a.1),
    ) refl

pub signed-back : (role : Data) (ss : List SignatureDoc) (d : Data) → signed_parts_json role ss ≡ Some d → signed_parts d ≡ Some (role, ss)
unfolding signed_parts_json signed_parts
signed-back role ss d w =
    let a = bind_ok (all_json signature_json ss) (λ ds. with (codes "signatures") (array ds) no_members >>= λ m. with (codes "signed") role m >>= λ ms. Some (object ms)) d w in
    let b = bind_ok (with (codes "signatures") (array a.0) no_members) (λ m. with (codes "signed") role m >>= λ ms. Some (object ms)) d a.2 in
    let c = bind_ok (with (codes "signed") role b.0) (λ ms. Some (object ms)) d b.2 in
    rw (
      ← some-inj c.2,
      required-with (codes "signed") Some role b.0 c.0 role c.1 refl,
      required-with (codes "signatures") (listing signature_at) (array a.0) no_members b.0 ss b.1 (all-back signature_at signature_json ss a.0 signature-back a.1),
    ) refl

-- ---- a signed document as an equation on its plain form

pub signed-read : {T A : Type 0} (f : Data → Option A) (doc : T → A) (d : Data) (s : Signed T) → IsSigned (λ e x. f e ≡ Some (doc x)) d s → signed_at f d ≡ Some (signed_doc doc s)
signed-read f doc d s h = rw (h.found, h.read) refl

pub signed-refused : {A : Type 0} (f : Data → Option A) (d : Data) → IsNotSigned (λ e. f e ≡ None) d → signed_at f d ≡ None
signed-refused f d (inl none) = rw none refl
signed-refused f d (inr (role, ss, found, none)) = rw (found, none) refl

-- ---- what is refused

pub no-parts : (refused : Data → Type 0) (e : ReadError) (d : Data) → Refuses e (signed_parts d) → RefusesValue (IsNotSigned refused) e d
no-parts refused (errors.Json place) d h = h
no-parts refused (errors.Shape s) d h = inl h
no-parts refused errors.Memory d h = tt

pub no-role : (refused : Data → Type 0) (e : ReadError) (d role : Data) (ss : List SignatureDoc) → signed_parts d ≡ Some (role, ss) → RefusesValue refused e role → RefusesValue (IsNotSigned refused) e d
no-role refused (errors.Json place) d role ss found h = h
no-role refused (errors.Shape s) d role ss found h = inr (role, ss, found, h)
no-role refused errors.Memory d role ss found h = tt

-- what is told under a name is refused as before
pub value-under : (refused : Data → Type 0) (name : List ℕ) (e f : ReadError) (d : Data) → TellsUnder name e f → RefusesValue refused e d → RefusesValue refused f d
value-under refused name (errors.Json place) f d t r = absurd r
value-under refused name (errors.Shape told) (errors.Json place) d t r = t
value-under refused name (errors.Shape told) (errors.Shape text) d t r = r
value-under refused name (errors.Shape told) errors.Memory d t r = tt
value-under refused name errors.Memory f d t r = subst (λ z. RefusesValue refused z d) (sym t) tt

pub read-text : {X : Type 0} (is : Data → X → Type 0) (refused : Data → Type 0) (r : Result X ReadError) (d : Data) (bytes : List ℕ) → json_of bytes ≡ Some d → ReadsValue is refused r d → ReadsText is refused r bytes
read-text is refused (Ok x) d bytes e h = (d, e, h)
read-text is refused (Err (errors.Json place)) d bytes e h = absurd h
read-text is refused (Err (errors.Shape s)) d bytes e h = (d, e, h)
read-text is refused (Err errors.Memory) d bytes e h = tt
