-- Targets that state a length and digests alone.
use Rattle.std.proofs.Common.{◌≡◌, ℕ, List, [], codes, Option, Some, None, Result, Ok, Err, IfOk, IfSome, refl}
use Rattle.serde_json.specs.Data.{Data, object, no_members, member}
use Rattle.serde_json.specs.View.{members_view}
use Rattle.serde_json.proofs.Views.{Entry}
use Rattle.tough_decoded.specs.Spelled.{Spelled}
use Rattle.tough_json.specs.Reading.{whole, hexadecimal}
use Rattle.tough_roles.specs.Timestamp.{HashesDoc, hashes_at}
use Rattle.tough_schema.specs.Target.{target_at}

pub hashes-one : (d : Data) (s : Spelled) (es : List Entry) → hexadecimal d ≡ Some s → es ≡ []
    → hashes_at (object (member (codes "sha256") d no_members)) ≡ Some (record { sha256 = s; sha512 = None; extra = members_view es })
unfolding hashes_at
hashes-one d s es h none = rw (h, none) refl

pub hashes-both : (d e : Data) (s t : Spelled) (es : List Entry) → hexadecimal d ≡ Some s → hexadecimal e ≡ Some t → es ≡ []
    → hashes_at (object (member (codes "sha256") d (member (codes "sha512") e no_members))) ≡ Some (record { sha256 = s; sha512 = Some t; extra = members_view es })
unfolding hashes_at
hashes-both d e s t es h i none = rw (h, i, none) refl

pub target-stated : (d e : Data) (n : ℕ) (x : HashesDoc) (es fs : List Entry) → whole d ≡ Some n → hashes_at e ≡ Some x → es ≡ [] → fs ≡ []
    → target_at (object (member (codes "hashes") e (member (codes "length") d no_members))) ≡ Some (record { length = n; hashes = x; custom = members_view es; extra = members_view fs })
unfolding target_at
target-stated d e n x es fs h i none bare = rw (h, i, none, bare) refl

-- what was found, if it was, is something else too
pub found-as : {X E : Type 0} (r : Result (Option X) E) (P Q : X → Type 0) → ((x : X) → P x → Q x) → IfOk r (λ o. IfSome o P) → IfOk r (λ o. IfSome o Q)
found-as (Ok (Some x)) P Q f h = f x h
found-as (Ok None) P Q f h = tt
found-as (Err e) P Q f h = tt
