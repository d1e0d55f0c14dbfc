-- What it says of documents that checks passed.
use Rattle.std.specs.Prelude.{◌≡◌, ℕ, ℤ, ◌==◌, ◌≤◌, List, length, Option, Some, None, IfSome, Bool, true, false, IsTrue, Result, Ok, Err, not, ◌&&◌, if◌then◌else◌}
use Rattle.std.proofs.Common.{refl}
use Rattle.std.proofs.lemmas.Bool.{eqb-true}
use Rattle.tough_keys.specs.Same.{Verifies}
use Rattle.tough_roles.specs.Signature.{SignedDoc}
use Rattle.tough_roles.specs.Root.{RootDoc}
use Rattle.tough_roles.specs.Timestamp.{TimestampDoc, timestamp_json}
use Rattle.tough_roles.specs.Snapshot.{SnapshotDoc, snapshot_json}
use Rattle.tough_roles.specs.Verdict.{Refused}
use Rattle.tough_roles.specs.Chain.{ReachesUnder}
use Rattle.tough_roles.specs.declared.role_type.RoleType.{RoleType}
use Rattle.tough_roles.specs.declared.role_type.RoleType.TheVariants as role
use Rattle.tough_roles.proofs.lemmas.Reached.{ok-reaches}
use Rattle.tough_checks.specs.Checks.{Reason, refuse, or_else, VersionMismatch, TimestampMetaLength, expiry, is_expired, ExpiredMetadata, verified, timestamp_first, timestamp_form, snapshot_first, snapshot_form}
use Rattle.tough_checks.specs.Documents.{timestamp_verdict, snapshot_verdict}
use Rattle.tough_trust.specs.Failure.{Failure}
use Rattle.tough_trust.specs.Outcomes.{if_read, unrefused, and_then}
use Rattle.tough_net.specs.Digests.{Digests, HasDigests, has_digests}
use Rattle.tough_net.proofs.lemmas.Digests.{digests-had}
use Rattle.tough_trust.specs.Requests.{bound}

-- ---- checks that passed

pub or_first : (a b : Option Reason) → or_else a b ≡ None → a ≡ None
or_first None b h = refl
or_first (Some r) b h = cc

pub or_second : (a b : Option Reason) → or_else a b ≡ None → b ≡ None
or_second None b h = h
or_second (Some r) b h = cc

pub not_refused : (b : Bool) (r : Reason) → refuse (not b) r ≡ None → b ≡ true
not_refused true r h = refl
not_refused false r h = cc

pub refuse-none : (b : Bool) (r : Reason) → refuse b r ≡ None → b ≡ false
refuse-none true r h = cc
refuse-none false r h = refl

pub ok-same : {A : Type 0} (x y : A) (r : Result A Failure) → r ≡ Ok x → r ≡ Ok y → x ≡ y
ok-same x y r g h = cc

pub is_verified : (type : RoleType) (v : Result Unit Refused) → verified type v ≡ None → v ≡ Ok (tt {0})
is_verified type (Ok u) h = refl
is_verified type (Err r) h = cc

pub not-expired : (type : RoleType) (enforced : Bool) (start expires : ℤ) → expiry type enforced start expires ≡ None → is_expired enforced start expires ≡ false
not-expired type enforced start expires h = refuse-none (is_expired enforced start expires) (ExpiredMetadata type expires start) h

-- ---- requests that bytes fit

pub has-true : (b c : Bool) → IsTrue (b && c) → IsTrue b × IsTrue c
has-true true c h = (refl, h)
has-true false c h = cc

pub size-stated : (o : Option ℕ) (limit n : ℕ) → n ≤ bound o limit → IfSome o (λ k. n ≤ k)
size-stated None limit n h = tt
size-stated (Some k) limit n h = h

pub digests-stated : (d : Digests) (bytes : List ℕ) → IsTrue (has_digests d bytes) → HasDigests d bytes
digests-stated = digests-had

-- ---- documents that were read

pub and_then-ok : {A B : Type 0} (r : Result A Failure) (next : A → Result B Failure) (b : B) → and_then r next ≡ Ok b → (a : A) × (r ≡ Ok a) × (next a ≡ Ok b)
and_then-ok (Ok a) next b h = (a, refl, h)
and_then-ok (Err e) next b h = cc

pub if_read-ok : {A B : Type 0} (f : Failure) (o : Option A) (next : A → Result B Failure) (b : B) → if_read f o next ≡ Ok b → (a : A) × (o ≡ Some a) × (next a ≡ Ok b)
if_read-ok f None next b h = cc
if_read-ok f (Some a) next b h = (a, refl, h)

if-ok : {A : Type 0} (b : Bool) (x y : A) (f : Failure) → (if b then Ok x else Err f) ≡ Ok y → IsTrue b × (x ≡ y)
if-ok true x y f h = (refl, cc)
if-ok false x y f h = cc

pub not-true : (b : Bool) → IsTrue (not b) → b ≡ false
not-true true h = cc
not-true false h = refl

pub unrefused-ok : {A : Type 0} (o : Option Reason) (x y : A) → unrefused o x ≡ Ok y → (o ≡ None) × (x ≡ y)
unrefused-ok None x y h = (refl, cc)
unrefused-ok (Some r) x y h = cc

-- ---- steps that succeeded

pub timestamp-passes : (verifies : Verifies) (root : RootDoc) (t : SignedDoc TimestampDoc) → timestamp_first (timestamp_verdict verifies root t) t.role ≡ None
    → ReachesUnder verifies root role.Timestamp timestamp_json t × (length t.role.meta ≡ 1)
timestamp-passes verifies root t h =
    let v = is_verified role.Timestamp (timestamp_verdict verifies root t) (or_first _ _ h) in
    let form : timestamp_form t.role ≡ None = or_first _ _ (or_second (verified role.Timestamp (timestamp_verdict verifies root t)) (or_else (timestamp_form t.role) None) h) in
    (ok-reaches verifies root role.Timestamp timestamp_json t (Ok (tt {0})) v, eqb-true _ _ (not_refused (length t.role.meta == 1) (TimestampMetaLength t.role.head.version (length t.role.meta)) (or_first _ _ form)))

pub snapshot-passes : (verifies : Verifies) (root : RootDoc) (listed : ℕ) (d : SignedDoc SnapshotDoc) → snapshot_first listed (snapshot_verdict verifies root d) d.role ≡ None
    → ReachesUnder verifies root role.Snapshot snapshot_json d × (d.role.head.version ≡ listed)
snapshot-passes verifies root listed d h =
    let later = or_second (refuse (not (d.role.head.version == listed)) (VersionMismatch role.Snapshot d.role.head.version listed)) (or_else (verified role.Snapshot (snapshot_verdict verifies root d)) (or_else (snapshot_form d.role) None)) h in
    let v = is_verified role.Snapshot (snapshot_verdict verifies root d) (or_first _ _ later) in
    (ok-reaches verifies root role.Snapshot snapshot_json d (Ok (tt {0})) v, eqb-true _ _ (not_refused (d.role.head.version == listed) (VersionMismatch role.Snapshot d.role.head.version listed) (or_first _ _ h)))
