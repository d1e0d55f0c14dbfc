-- What is known of documents that were read from bytes: versions are of 64 bits, keys are in order, signatures are spelled.
use Rattle.std.proofs.Common.{◌≡◌, ℕ, ◌^◌, ◌<◌, List, [], ◌∷◌, Option, Some, None, option_and_then, codes, ap, subst, ◌∙◌}
use Rattle.std.specs.Prelude.{is_none}
use Rattle.std.specs.Map.{keys_of}
use Rattle.std.specs.List.Sorted.{IsStrictlySortedBy}
use Rattle.serde_json.specs.Data.{Data, Items, no_items, item, Members}
use Rattle.serde_json.specs.Find.{as_object, as_str, get_member}
use Rattle.tough_decoded.specs.Spelled.{Spelled, hex_bytes}
use Rattle.tough_json.specs.Reading.{◌>>=◌, required, without, text, positive, truth, instant, mapping, hexadecimal, listing, spelled, all_at, as_items, optional, if_present, present}
use Rattle.tough_json.specs.Results.{json_of}
use Rattle.tough_json.proofs.lemmas.Write.{bind_ok, some-inj}
use Rattle.tough_keys.specs.Key.{KeyDoc}
use Rattle.tough_roles.specs.Head.{Head, head_at}
use Rattle.tough_roles.specs.Root.{RootDoc, by_bytes, key_entry_at, keys_at, keys_from, roles_at, root_at}
use Rattle.tough_roles.specs.Signature.{SignatureDoc, SignedDoc, signature_at, signed_parts, signed_at, IsSpelled, AreSpelled}
use Rattle.tough_roles.specs.Snapshot.{SnapshotDoc, snapshot_at}
use Rattle.tough_roles.specs.Timestamp.{metafile_at}
use Rattle.tough_roles.proofs.lemmas.Root.{by_bytes_total}
use Rattle.tough_schema.specs.Delegations.{DelegationsDoc, delegated_role_at, delegations_at}
use Rattle.tough_schema.specs.Targets.{TargetsDoc, listing_at, targets_at, KeysRise}
use Rattle.tough_round.proofs.Rising.{table-rises}
use Rattle.tough_round.proofs.Words.{HasWords, MembersHave, map-some, then-some, read-words, object-words, required-words, positive-words}

-- ---- signatures

hex-spelled : (d : Data) (s : Spelled) → hexadecimal d ≡ Some s → IsSpelled s
hex-spelled d s h =
    let t = then-some (spelled hex_bytes) (as_str d) s h in
    let b = map-some (λ bytes. let x : Spelled = record { spelling = t.0; bytes = bytes } in x) (hex_bytes t.0) s t.2 in
    subst IsSpelled b.2 b.1

required-read : {A : Type 0} (k : List ℕ) (f : Data → Option A) (ms : Members) (r : A × Members) → required k f ms ≡ Some r → (d : Data) × (f d ≡ Some r.0)
required-read {A} k f ms r h =
    let p = map-some (λ x. let q : A × Members = (x, without k ms) in q) (option_and_then f (get_member k ms)) r h in
    let q = then-some f (get_member k ms) p.0 p.1 in
    (q.0, q.2 ∙ ap (λ (y : A × Members). Some y.0) p.2)

signature-spelled : (d : Data) (s : SignatureDoc) → signature_at d ≡ Some s → IsSpelled s.keyid × IsSpelled s.sig
unfolding signature_at
signature-spelled d s h =
    let ms = bind_ok (as_object d) (λ members. required (codes "keyid") hexadecimal members >>= λ keyid. required (codes "sig") hexadecimal keyid.1 >>= λ sig. Some (record { keyid = keyid.0; sig = sig.0 })) s h in
    let a = bind_ok (required (codes "keyid") hexadecimal ms.0) (λ keyid. required (codes "sig") hexadecimal keyid.1 >>= λ sig. Some (record { keyid = keyid.0; sig = sig.0 })) s ms.2 in
    let b = bind_ok (required (codes "sig") hexadecimal a.0.1) (λ sig. Some (record { keyid = a.0.0; sig = sig.0 })) s a.2 in
    let p = required-read (codes "keyid") hexadecimal ms.0 a.0 a.1 in
    let q = required-read (codes "sig") hexadecimal a.0.1 b.0 b.1 in
    let is = some-inj b.2 in
    (subst (λ (x : SignatureDoc). IsSpelled x.keyid) is (hex-spelled p.0 a.0.0 p.1), subst (λ (x : SignatureDoc). IsSpelled x.sig) is (hex-spelled q.0 b.0.0 q.1))

items-spelled : (ds : Items) (ss : List SignatureDoc) → all_at signature_at ds ≡ Some ss → AreSpelled ss
unfolding all_at
items-spelled no_items ss h = subst AreSpelled (some-inj h) tt
items-spelled (item d ds) ss h =
    let a = bind_ok (signature_at d) (λ s. all_at signature_at ds >>= λ rest. Some (s ∷ rest)) ss h in
    let b = bind_ok (all_at signature_at ds) (λ rest. Some (a.0 ∷ rest)) ss a.2 in
    let one = signature-spelled d a.0 a.1 in
    subst AreSpelled (some-inj b.2) (one.0, one.1, items-spelled ds b.0 b.1)

-- ---- signed documents

-- the JSON of the role
pub signed-parts : {A : Type 0} (f : Data → Option A) (d : Data) (s : SignedDoc A) → signed_at f d ≡ Some s → HasWords d → ((r : Data) × (f r ≡ Some s.role) × HasWords r) × AreSpelled s.signatures
unfolding signed_parts
signed-parts {A} f d s h w =
    let p = bind_ok (signed_parts d) (λ parts. f parts.0 >>= λ role. Some (record { role = role; signatures = parts.1 })) s h in
    let q = bind_ok (f p.0.0) (λ role. Some (record { role = role; signatures = p.0.1 })) s p.2 in
    let ms = bind_ok (as_object d) (λ members. required (codes "signed") Some members >>= λ role. required (codes "signatures") (listing signature_at) role.1 >>= λ signatures. Some (role.0, signatures.0)) p.0 p.1 in
    let a = bind_ok (required (codes "signed") Some ms.0) (λ role. required (codes "signatures") (listing signature_at) role.1 >>= λ signatures. Some (role.0, signatures.0)) p.0 ms.2 in
    let b = bind_ok (required (codes "signatures") (listing signature_at) a.0.1) (λ signatures. Some (a.0.0, signatures.0)) p.0 a.2 in
    let have = required-words (codes "signed") Some ms.0 a.0 a.1 (object-words d ms.0 ms.1 w) in
    let l = required-read (codes "signatures") (listing signature_at) a.0.1 b.0 b.1 in
    let items = then-some (all_at signature_at) (as_items l.0) b.0.0 l.1 in
    let role-is : have.0.0 ≡ a.0.0 = some-inj have.0.1 in
    let parts-is = some-inj b.2 in
    let data-is : have.0.0 ≡ p.0.0 = role-is ∙ ap (λ (x : Data × List SignatureDoc). x.0) parts-is in (
      (p.0.0, q.1 ∙ ap (λ (x : SignedDoc A). Some x.role) (some-inj q.2), subst HasWords data-is have.0.2),
      subst AreSpelled (ap (λ (x : Data × List SignatureDoc). x.1) parts-is ∙ ap (λ (x : SignedDoc A). x.signatures) (some-inj q.2)) (items-spelled items.0 b.0.0 items.2),
    )

-- ---- heads

pub head-word : (ms : Members) (r : Head × Members) → head_at ms ≡ Some r → MembersHave ms → r.0.version < 2 ^ 64
unfolding head_at
head-word ms r h w =
    let a = bind_ok (required (codes "spec_version") text ms) (λ spec_version. required (codes "version") positive spec_version.1 >>= λ version. required (codes "expires") instant version.1 >>= λ expires. Some (record { spec_version = spec_version.0; version = version.0; expires = expires.0 }, without (codes "_type") expires.1)) r h in
    let b = bind_ok (required (codes "version") positive a.0.1) (λ version. required (codes "expires") instant version.1 >>= λ expires. Some (record { spec_version = a.0.0; version = version.0; expires = expires.0 }, without (codes "_type") expires.1)) r a.2 in
    let c = bind_ok (required (codes "expires") instant b.0.1) (λ expires. Some (record { spec_version = a.0.0; version = b.0.0; expires = expires.0 }, without (codes "_type") expires.1)) r b.2 in
    let x = required-words (codes "spec_version") text ms a.0 a.1 w in
    let y = required-words (codes "version") positive a.0.1 b.0 b.1 x.1 in
    subst (λ (q : Head × Members). q.0.version < 2 ^ 64) (some-inj c.2) (positive-words y.0.0 b.0.0 y.0.1 y.0.2)

snapshot-word : (d : Data) (s : SnapshotDoc) → snapshot_at d ≡ Some s → HasWords d → s.head.version < 2 ^ 64
unfolding snapshot_at
snapshot-word d s h w =
    let ms = bind_ok (as_object d) (λ members. head_at members >>= λ head. required (codes "meta") (mapping metafile_at) head.1 >>= λ meta. Some (record { head = head.0; meta = meta.0; extra = meta.1 })) s h in
    let a = bind_ok (head_at ms.0) (λ head. required (codes "meta") (mapping metafile_at) head.1 >>= λ meta. Some (record { head = head.0; meta = meta.0; extra = meta.1 })) s ms.2 in
    let b = bind_ok (required (codes "meta") (mapping metafile_at) a.0.1) (λ meta. Some (record { head = a.0.0; meta = meta.0; extra = meta.1 })) s a.2 in
    subst (λ (x : SnapshotDoc). x.head.version < 2 ^ 64) (some-inj b.2) (head-word ms.0 a.0 a.1 (object-words d ms.0 ms.1 w))

pub snapshot-small : (bytes : List ℕ) (s : SignedDoc SnapshotDoc) → option_and_then (signed_at snapshot_at) (json_of bytes) ≡ Some s → s.role.head.version < 2 ^ 64
snapshot-small bytes s h =
    let d = then-some (signed_at snapshot_at) (json_of bytes) s h in
    let p = signed-parts snapshot_at d.0 s d.2 (read-words bytes d.0 d.1) in
    snapshot-word p.0.0 s.role p.0.1 p.0.2

-- ---- keys

pub keys-rise : (d : Data) (ks : List (Spelled × KeyDoc)) → keys_at d ≡ Some ks → IsStrictlySortedBy by_bytes (keys_of ks)
unfolding IsStrictlySortedBy
keys-rise d ks h = let m = then-some (keys_from []) (as_object d) ks h in table-rises by_bytes_total is_none key_entry_at [] ks m.0 tt m.2

root-known : (d : Data) (r : RootDoc) → root_at d ≡ Some r → HasWords d → (r.head.version < 2 ^ 64) × IsStrictlySortedBy by_bytes (keys_of r.keys)
unfolding root_at
root-known d r h w =
    let ms = bind_ok (as_object d) (λ members. head_at members >>= λ head. required (codes "consistent_snapshot") truth head.1 >>= λ consistent. required (codes "keys") keys_at consistent.1 >>= λ keys. required (codes "roles") roles_at keys.1 >>= λ roles. Some (record { head = head.0; consistent_snapshot = consistent.0; keys = keys.0; roles = roles.0; extra = roles.1 })) r h in
    let a = bind_ok (head_at ms.0) (λ head. required (codes "consistent_snapshot") truth head.1 >>= λ consistent. required (codes "keys") keys_at consistent.1 >>= λ keys. required (codes "roles") roles_at keys.1 >>= λ roles. Some (record { head = head.0; consistent_snapshot = consistent.0; keys = keys.0; roles = roles.0; extra = roles.1 })) r ms.2 in
    let b = bind_ok (required (codes "consistent_snapshot") truth a.0.1) (λ consistent. required (codes "keys") keys_at consistent.1 >>= λ keys. required (codes "roles") roles_at keys.1 >>= λ roles. Some (record { head = a.0.0; consistent_snapshot = consistent.0; keys = keys.0; roles = roles.0; extra = roles.1 })) r a.2 in
    let c = bind_ok (required (codes "keys") keys_at b.0.1) (λ keys. required (codes "roles") roles_at keys.1 >>= λ roles. Some (record { head = a.0.0; consistent_snapshot = b.0.0; keys = keys.0; roles = roles.0; extra = roles.1 })) r b.2 in
    let e = bind_ok (required (codes "roles") roles_at c.0.1) (λ roles. Some (record { head = a.0.0; consistent_snapshot = b.0.0; keys = c.0.0; roles = roles.0; extra = roles.1 })) r c.2 in
    let k = required-read (codes "keys") keys_at b.0.1 c.0 c.1 in
    subst (λ (x : RootDoc). (x.head.version < 2 ^ 64) × IsStrictlySortedBy by_bytes (keys_of x.keys)) (some-inj e.2) (head-word ms.0 a.0 a.1 (object-words d ms.0 ms.1 w), keys-rise k.0 c.0.0 k.1)

-- a root that was read has a version in one word and its keys in order, and its signatures are spelled
pub root-read : (bytes : List ℕ) (s : SignedDoc RootDoc) → option_and_then (signed_at root_at) (json_of bytes) ≡ Some s
    → ((s.role.head.version < 2 ^ 64) × IsStrictlySortedBy by_bytes (keys_of s.role.keys)) × AreSpelled s.signatures
root-read bytes s h =
    let d = then-some (signed_at root_at) (json_of bytes) s h in
    let p = signed-parts root_at d.0 s d.2 (read-words bytes d.0 d.1) in
    (root-known p.0.0 s.role p.0.1 p.0.2, p.1)

-- ---- targets

delegations-rise : (d : Data) (g : DelegationsDoc) → delegations_at d ≡ Some g → IsStrictlySortedBy by_bytes (keys_of g.keys)
unfolding delegations_at
delegations-rise d g h =
    let ms = bind_ok (as_object d) (λ members. required (codes "keys") keys_at members >>= λ keys. required (codes "roles") (listing delegated_role_at) keys.1 >>= λ roles. Some (record { keys = keys.0; roles = roles.0 })) g h in
    let a = bind_ok (required (codes "keys") keys_at ms.0) (λ keys. required (codes "roles") (listing delegated_role_at) keys.1 >>= λ roles. Some (record { keys = keys.0; roles = roles.0 })) g ms.2 in
    let b = bind_ok (required (codes "roles") (listing delegated_role_at) a.0.1) (λ roles. Some (record { keys = a.0.0; roles = roles.0 })) g a.2 in
    let k = required-read (codes "keys") keys_at ms.0 a.0 a.1 in
    subst (λ (x : DelegationsDoc). IsStrictlySortedBy by_bytes (keys_of x.keys)) (some-inj b.2) (keys-rise k.0 a.0.0 k.1)

present-rises : (o : Option Data) (g : Option DelegationsDoc) → if_present delegations_at o ≡ Some g → KeysRise g
present-rises None g h = subst KeysRise (some-inj h) tt
present-rises (Some d) g h = let p = map-some (λ x. let y : Option DelegationsDoc = Some x in y) (delegations_at d) g h in subst KeysRise p.2 (delegations-rise d p.0 p.1)

optional-rises : (ms : Members) (r : Option DelegationsDoc × Members) → optional (codes "delegations") delegations_at ms ≡ Some r → KeysRise r.0
optional-rises ms r h =
    let p = map-some (λ a. let q : Option DelegationsDoc × Members = (a, without (codes "delegations") ms) in q) (if_present delegations_at (present (codes "delegations") ms)) r h in
    subst KeysRise (ap (λ (x : Option DelegationsDoc × Members). x.0) p.2) (present-rises (present (codes "delegations") ms) p.0 p.1)

targets-known : (d : Data) (t : TargetsDoc) → targets_at d ≡ Some t → HasWords d → (t.head.version < 2 ^ 64) × KeysRise t.delegations
unfolding targets_at
targets-known d t h w =
    let ms = bind_ok (as_object d) (λ members. head_at members >>= λ head. required (codes "targets") listing_at head.1 >>= λ targets. optional (codes "delegations") delegations_at targets.1 >>= λ delegations. Some (record { head = head.0; targets = targets.0; delegations = delegations.0; extra = delegations.1 })) t h in
    let a = bind_ok (head_at ms.0) (λ head. required (codes "targets") listing_at head.1 >>= λ targets. optional (codes "delegations") delegations_at targets.1 >>= λ delegations. Some (record { head = head.0; targets = targets.0; delegations = delegations.0; extra = delegations.1 })) t ms.2 in
    let b = bind_ok (required (codes "targets") listing_at a.0.1) (λ targets. optional (codes "delegations") delegations_at targets.1 >>= λ delegations. Some (record { head = a.0.0; targets = targets.0; delegations = delegations.0; extra = delegations.1 })) t a.2 in
    let c = bind_ok (optional (codes "delegations") delegations_at b.0.1) (λ delegations. Some (record { head = a.0.0; targets = b.0.0; delegations = delegations.0; extra = delegations.1 })) t b.2 in
    subst (λ (x : TargetsDoc). (x.head.version < 2 ^ 64) × KeysRise x.delegations) (some-inj c.2) (head-word ms.0 a.0 a.1 (object-words d ms.0 ms.1 w), optional-rises b.0.1 c.0 c.1)

-- targets that were read have a version of 64 bits, and their keys in order
pub targets-read : (bytes : List ℕ) (s : SignedDoc TargetsDoc) → option_and_then (signed_at targets_at) (json_of bytes) ≡ Some s → (s.role.head.version < 2 ^ 64) × KeysRise s.role.delegations
targets-read bytes s h =
    let d = then-some (signed_at targets_at) (json_of bytes) s h in
    let p = signed-parts targets_at d.0 s d.2 (read-words bytes d.0 d.1) in
    targets-known p.0.0 s.role p.0.1 p.0.2
