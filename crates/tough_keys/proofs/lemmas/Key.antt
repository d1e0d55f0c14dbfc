-- What is written for a key is read as it.
use Rattle.std.proofs.Common.{◌≡◌, ℕ, List, codes, Option, Some, refl}
use Rattle.tough_decoded.specs.Spelled.{Spelled}
use Rattle.serde_json.specs.Data.{Data, string, object, Members}
use Rattle.tough_json.specs.Reading.{◌>>=◌, decoded}
use Rattle.tough_json.specs.Writing.{with, decoded_json}
use Rattle.tough_json.proofs.lemmas.Write.{bind_ok, some-inj, required-with, decoded-back}
use Rattle.tough_keys.specs.declared.kind.Kind.{Kind}
use Rattle.tough_keys.specs.declared.kind.Kind.TheVariants as kinds
use Rattle.tough_keys.specs.Key.{KeyDoc, kind_name, scheme_name, public_bytes, kind_at, scheme_at, keyval_at, key_at, keyval_json, kind_json, key_json}

pub keyval-back : (decodes : List ℕ → Option (List ℕ)) (p : Spelled) (x : Members) (d : Data) → keyval_json decodes p x ≡ Some d → keyval_at decodes d ≡ Some (p, x)
unfolding keyval_json keyval_at
keyval-back decodes p x d w =
    let a = bind_ok (decoded_json decodes p) (λ v. with (codes "public") v x >>= λ ms. Some (object ms)) d w in
    let b = bind_ok (with (codes "public") a.0 x) (λ ms. Some (object ms)) d a.2 in
    rw (← some-inj b.2, required-with (codes "public") (decoded decodes) a.0 x b.0 p b.1 (decoded-back decodes p a.0 a.1)) refl

kind_named : (k : Kind) → kind_at (string (kind_name k)) ≡ Some k
kind_named kinds.Rsa = refl
kind_named kinds.Ed25519 = refl
kind_named kinds.Ecdsa = refl
kind_named kinds.EcdsaOld = refl

scheme_named : (k : Kind) → scheme_at k (string (scheme_name k)) ≡ Some tt
scheme_named kinds.Rsa = refl
scheme_named kinds.Ed25519 = refl
scheme_named kinds.Ecdsa = refl
scheme_named kinds.EcdsaOld = refl

pub key-back : (k : KeyDoc) (d : Data) → key_json k ≡ Some d → key_at d ≡ Some k
unfolding key_json kind_json key_at
key-back k d w =
    let a = bind_ok (keyval_json (public_bytes k.kind) k.public k.keyval_extra) (λ inner. kind_json k.kind inner k.extra) d w in
    let b = bind_ok (with (codes "keyval") a.0 k.extra) (λ keyval. with (codes "scheme") (string (scheme_name k.kind)) keyval >>= λ scheme. with (codes "keytype") (string (kind_name k.kind)) scheme >>= λ ms. Some (object ms)) d a.2 in
    let c = bind_ok (with (codes "scheme") (string (scheme_name k.kind)) b.0) (λ scheme. with (codes "keytype") (string (kind_name k.kind)) scheme >>= λ ms. Some (object ms)) d b.2 in
    let e = bind_ok (with (codes "keytype") (string (kind_name k.kind)) c.0) (λ ms. Some (object ms)) d c.2 in
    rw (
      ← some-inj e.2,
      required-with (codes "keytype") kind_at (string (kind_name k.kind)) c.0 e.0 k.kind e.1 (kind_named k.kind),
      required-with (codes "scheme") (scheme_at k.kind) (string (scheme_name k.kind)) b.0 c.0 tt c.1 (scheme_named k.kind),
      required-with (codes "keyval") (keyval_at (public_bytes k.kind)) a.0 k.extra b.0 (k.public, k.keyval_extra) b.1 (keyval-back (public_bytes k.kind) k.public k.keyval_extra a.0 a.1),
    ) refl
