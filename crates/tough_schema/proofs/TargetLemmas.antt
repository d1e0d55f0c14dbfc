-- What is written for a target is read as it.
use Rattle.std.proofs.Common.{◌≡◌, ℕ, List, [], ◌∷◌, length, codes, Option, Some, None, refl}
use Rattle.std.proofs.lemmas.Slice.Eq.{bytes_eq-Decides}
use Rattle.tough_decoded.specs.Spelled.{Spelled, hex_bytes}
use Rattle.serde_json.specs.Data.{Data, string, object, Members, no_members, member}
use Rattle.serde_json.specs.Find.{get_member}
use Rattle.serde_json.specs.View.{members_view}
use Rattle.serde_json.proofs.Views.{Entry, get_member-put}
use Rattle.tough_json.specs.Reading.{◌>>=◌, whole}
use Rattle.tough_json.specs.Writing.{if_free, with, with_optional, length_json, hexadecimal_json}
use Rattle.tough_json.proofs.lemmas.Write.{bind_ok, some-inj, required-with, length-back, without-with, without-absent}
use Rattle.tough_roles.specs.Timestamp.{HashesDoc, hashes_at, hashes_json}
use Rattle.tough_roles.proofs.lemmas.Timestamp.{hashes-back}
use Rattle.tough_schema.specs.Target.{TargetDoc, target_at, target_json, custom_at, unless_empty, IsPlain}

pub unless_empty-filled : (es : List Entry) → (length es ≡ 0 → ⊥) → unless_empty (members_view es) ≡ Some (object (members_view es))
unless_empty-filled [] h = absurd (h refl)
unless_empty-filled (e ∷ es) h = refl

free_at : {A : Type 0} (o : Option Data) (a b : A) → if_free o a ≡ Some b → (o ≡ None) × (a ≡ b)
free_at None a b h = (refl, some-inj h)
free_at (Some d) a b h = cc

custom-back : (c ms new : Members) → with_optional (codes "custom") (unless_empty c) ms ≡ Some new → custom_at new ≡ Some (c, ms)
custom-back no_members ms new h =
    let free = free_at (get_member (codes "custom") ms) ms new h in
    rw (← free.1, free.0, without-absent (codes "custom") ms free.0) refl
custom-back (member k d rest) ms new h =
    let free = free_at (get_member (codes "custom") ms) _ new h in
    rw (without-with (codes "custom") (object (member k d rest)) ms new h, ← free.1, get_member-put (codes "custom") (object (member k d rest)) ms) refl

pub target-back : (t : TargetDoc) (d : Data) → target_json t ≡ Some d → target_at d ≡ Some t
unfolding target_json target_at
target-back t d w =
    let a = bind_ok (with_optional (codes "custom") (unless_empty t.custom) t.extra) _ d w in
    let b = bind_ok (hashes_json t.hashes) _ d a.2 in
    let c = bind_ok (with (codes "hashes") b.0 a.0) _ d b.2 in
    let e = bind_ok (length_json t.length) (λ size. with (codes "length") size c.0 >>= λ ms. Some (object ms)) d c.2 in
    let f = bind_ok (with (codes "length") e.0 c.0) (λ ms. Some (object ms)) d e.2 in
    rw (
      ← some-inj f.2,
      required-with (codes "length") whole e.0 c.0 f.0 t.length f.1 (length-back t.length e.0 e.1).1,
      required-with (codes "hashes") hashes_at b.0 a.0 c.0 t.hashes c.1 (hashes-back t.hashes b.0 b.1),
      custom-back t.custom t.extra a.0 a.1,
    ) refl

pub none-there : (es : List Entry) → length es ≡ 0 → members_view es ≡ no_members
none-there [] h = refl
none-there (e ∷ es) h = cc

hashes-plain : (h : HashesDoc) (d : Data) → h.sha512 ≡ None → h.extra ≡ no_members → hexadecimal_json h.sha256 ≡ Some d → hashes_json h ≡ Some (object (member (codes "sha256") d no_members))
unfolding hashes_json
hashes-plain h d none bare is = rw (none, bare, is) refl

pub plain-json : (t : TargetDoc) (d size : Data) → IsPlain t → hexadecimal_json t.hashes.sha256 ≡ Some d → length_json t.length ≡ Some size
    → target_json t ≡ Some (object (member (codes "hashes") (object (member (codes "sha256") d no_members)) (member (codes "length") size no_members)))
unfolding target_json
plain-json t d size plain is sized = rw (plain.0, plain.1, hashes-plain t.hashes d plain.2 plain.3 is, ← some-inj sized) refl

-- the digits that were read stand for their bytes
pub digits-are : (s : Spelled) (text : List ℕ) → text ≡ s.spelling → hex_bytes text ≡ Some s.bytes → hexadecimal_json s ≡ Some (string text)
digits-are s text is read = rw (← is, read, (bytes_eq-Decides s.bytes s.bytes).1 refl) refl
