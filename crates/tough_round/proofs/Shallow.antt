-- The signed timestamp and snapshot nest no deeper than is read, where what was taken over of them doesn't.
use Rattle.std.proofs.Common.{◌≡◌, ◌≤◌, ℕ, List, [], ◌∷◌, ◌++◌, Option, None, Some, Ordering, Less, Equal, Greater, codes, refl, sym, subst, arith}
use Rattle.std.specs.BTreeMap.{insert_entry}
use Rattle.std.specs.Ordering.{nat_cmp, match_ordering}
use Rattle.std.specs.Cmp.Lexicographic.{slice_cmp}
use Rattle.serde_json.specs.Data.{Data, object, Members, no_members, member, depth, members_depth}
use Rattle.serde_json.specs.Read.{max_depth}
use Rattle.tough_json.specs.Reading.{◌>>=◌}
use Rattle.tough_json.specs.Writing.{with, with_optional, optional_json, positive_json, length_json, hexadecimal_json, named}
use Rattle.tough_json.proofs.lemmas.Write.{bind_ok, some-inj}
use Rattle.tough_roles.specs.Head.{head_json}
use Rattle.tough_roles.specs.Readable.{NestsWithin}
use Rattle.tough_roles.specs.Signature.{SignedDoc, signed_parts_json, signed_json}
use Rattle.tough_roles.specs.Snapshot.{SnapshotDoc, snapshot_json}
use Rattle.tough_roles.specs.Timestamp.{HashesDoc, MetafileDoc, TimestampDoc, hashes_json, metafile_json, timestamp_json}
use Rattle.tough_schema.specs.Targets.{delegated_name}
use Rattle.tough_schema.specs.declared.targets.DelegatedTargets.{DelegatedTargets}
use Rattle.tough_sign.specs.Listing.{stated}
use Rattle.tough_signed.specs.Roles.{signed_of, buffer_of}
use Rattle.tough_signed.specs.declared.signed_role.SignedRole.{SignedRole}
use Rattle.tough_release.specs.Documents.{Metas, with_role_meta, with_role_metas}
use Rattle.tough_round.specs.Loading.{IsShallow}
use Rattle.tough_round.specs.Roles.{role_version}
use Rattle.tough_round.proofs.Depths.{Below, OptBelow, both, with-below, with_optional-below, outside, text-flat, number-flat, head-written, parts-below}

-- ---- what is stated of a file

length-flat : (n size : ℕ) (d : Data) → length_json size ≡ Some d → depth d ≤ n
length-flat n size d e = subst (λ (x : Data). depth x ≤ n) (some-inj e) (omega arith)

optional-below : {A : Type 0} (n : ℕ) (f : A → Option Data) → ((a : A) (d : Data) → f a ≡ Some d → depth d ≤ n) → (x : Option A) (o : Option Data) → optional_json f x ≡ Some o → OptBelow n o
optional-below n f per None o w = subst (λ (x : Option Data). OptBelow n x) (some-inj w) tt
optional-below n f per (Some a) o w =
    let inner = bind_ok (f a) (λ d. Some (Some d)) o w in
    subst (λ (x : Option Data). OptBelow n x) (some-inj inner.2) (per a inner.0 inner.1)

-- no other members beside the digests
abbrev HasDigests : Option HashesDoc → Type 0
HasDigests None = Unit {0}
HasDigests (Some h) = h.extra ≡ no_members

-- nor beside them in the entry
abbrev pub IsStated : MetafileDoc → Type 0
IsStated m = (m.extra ≡ no_members) × HasDigests m.hashes

hashes-low : (h : HashesDoc) (d : Data) → h.extra ≡ no_members → hashes_json h ≡ Some d → depth d ≤ 1
unfolding hashes_json
hashes-low h d e w =
    let second = bind_ok (optional_json hexadecimal_json h.sha512) _ d w in
    let rest = bind_ok (with_optional (codes "sha512") second.0 h.extra) _ d second.2 in
    let digits = bind_ok (hexadecimal_json h.sha256) (λ x. with (codes "sha256") x rest.0 >>= λ ys. Some (object ys)) d rest.2 in
    let members = bind_ok (with (codes "sha256") digits.0 rest.0) (λ ys. Some (object ys)) d digits.2 in
    let none : Below 0 no_members = omega arith in
    let extra : Below 0 h.extra = subst (λ (x : Members). Below 0 x) (sym e) none in
    let long : Below 0 rest.0 = with_optional-below 0 (codes "sha512") second.0 h.extra rest.0 rest.1 (optional-below 0 hexadecimal_json (text-flat 0) h.sha512 second.0 second.1) extra in
    outside 0 d members.0 (some-inj members.2) (with-below 0 (codes "sha256") digits.0 rest.0 members.0 members.1 (text-flat 0 h.sha256 digits.0 digits.1) long)

digests-low : (x : Option HashesDoc) (o : Option Data) → HasDigests x → optional_json hashes_json x ≡ Some o → OptBelow 1 o
digests-low None o h w = subst (λ (x : Option Data). OptBelow 1 x) (some-inj w) tt
digests-low (Some x) o h w =
    let inner = bind_ok (hashes_json x) (λ d. Some (Some d)) o w in
    subst (λ (y : Option Data). OptBelow 1 y) (some-inj inner.2) (hashes-low x inner.0 h inner.1)

metafile-low : (m : MetafileDoc) (d : Data) → IsStated m → metafile_json m ≡ Some d → depth d ≤ 2
unfolding metafile_json
metafile-low m d h w =
    let a = bind_ok (optional_json hashes_json m.hashes) _ d w in
    let b = bind_ok (with_optional (codes "hashes") a.0 m.extra) _ d a.2 in
    let f = bind_ok (optional_json length_json m.length) _ d b.2 in
    let g = bind_ok (with_optional (codes "length") f.0 b.0) _ d f.2 in
    let c = bind_ok (positive_json m.version) (λ x. with (codes "version") x g.0 >>= λ ys. Some (object ys)) d g.2 in
    let e = bind_ok (with (codes "version") c.0 g.0) (λ ys. Some (object ys)) d c.2 in
    let none : Below 1 no_members = omega arith in
    let extra : Below 1 m.extra = subst (λ (x : Members). Below 1 x) (sym h.0) none in
    let digests : Below 1 b.0 = with_optional-below 1 (codes "hashes") a.0 m.extra b.0 b.1 (digests-low m.hashes a.0 h.1 a.1) extra in
    let long : Below 1 g.0 = with_optional-below 1 (codes "length") f.0 b.0 g.0 g.1 (optional-below 1 length_json (length-flat 1) m.length f.0 f.1) digests in
    outside 1 d e.0 (some-inj e.2) (with-below 1 (codes "version") c.0 g.0 e.0 e.1 (number-flat 1 m.version c.0 c.1) long)

-- ---- the entries

abbrev pub AllStated : Metas → Type 0
AllStated [] = Unit {0}
AllStated (e ∷ es) = IsStated e.1 × AllStated es

named-low : (es : Metas) (out : Members) → AllStated es → named metafile_json es ≡ Some out → Below 2 out
unfolding named
named-low [] out h w = subst (λ (x : Members). Below 2 x) (some-inj w) (omega arith)
named-low (e ∷ es) out h w =
    let d = bind_ok (metafile_json e.1) _ out w in
    let tail = bind_ok (named metafile_json es) (λ ms. Some (member e.0 d.0 ms)) out d.2 in
    subst (λ (x : Members). Below 2 x) (some-inj tail.2) (both (depth d.0) (members_depth tail.0) 2 (metafile-low e.1 d.0 h.0 d.1) (named-low es tail.0 h.1 tail.1))

placed-stated : (o : Ordering) (a b c : Metas) → AllStated a → AllStated b → AllStated c → AllStated (match_ordering o a b c)
placed-stated Less a b c x y z = x
placed-stated Equal a b c x y z = y
placed-stated Greater a b c x y z = z

insert-stated : (es : Metas) (name : List ℕ) (m : MetafileDoc) → IsStated m → AllStated es → AllStated (insert_entry (slice_cmp nat_cmp) es name m)
insert-stated [] name m h all = (h, tt)
insert-stated (e ∷ es) name m h all =
    placed-stated (slice_cmp nat_cmp name e.0) ((name, m) ∷ e ∷ es) ((e.0, m) ∷ es) (e ∷ insert_entry (slice_cmp nat_cmp) es name m) (h, all) (h, all.1) (all.0, insert-stated es name m h all.1)

pub roles-stated : (metas : Metas) (ds : List (SignedRole DelegatedTargets)) → AllStated metas → AllStated (with_role_metas metas ds)
roles-stated metas [] h = h
roles-stated metas (d ∷ ds) h =
    roles-stated (with_role_meta metas d) ds (insert-stated metas (delegated_name (signed_of d).signed ++ codes ".json") (stated (buffer_of d) (role_version d)) (refl, refl) h)

-- ---- the documents

timestamp-low : (t : TimestampDoc) (d : Data) → AllStated t.meta → IsShallow t.extra → timestamp_json t ≡ Some d → depth d ≤ 126
unfolding timestamp_json
timestamp-low t d all shallow w =
    let inner = bind_ok (named metafile_json t.meta) _ d w in
    let put = bind_ok (with (codes "meta") (object inner.0) t.extra) _ d inner.2 in
    let out = bind_ok (head_json (codes "timestamp") t.head put.0) (λ ys. Some (object ys)) d put.2 in
    let low : Below 2 inner.0 = named-low t.meta inner.0 all inner.1 in
    let listed : depth (object inner.0) ≤ 125 = omega (arith, low) in
    let extra : Below 125 t.extra = omega (arith, shallow) in
    outside 125 d out.0 (some-inj out.2) (head-written 125 (codes "timestamp") t.head put.0 out.0 out.1 (with-below 125 (codes "meta") (object inner.0) t.extra put.0 put.1 listed extra))

snapshot-low : (t : SnapshotDoc) (d : Data) → AllStated t.meta → IsShallow t.extra → snapshot_json t ≡ Some d → depth d ≤ 126
unfolding snapshot_json
snapshot-low t d all shallow w =
    let inner = bind_ok (named metafile_json t.meta) _ d w in
    let put = bind_ok (with (codes "meta") (object inner.0) t.extra) _ d inner.2 in
    let out = bind_ok (head_json (codes "snapshot") t.head put.0) (λ ys. Some (object ys)) d put.2 in
    let low : Below 2 inner.0 = named-low t.meta inner.0 all inner.1 in
    let listed : depth (object inner.0) ≤ 125 = omega (arith, low) in
    let extra : Below 125 t.extra = omega (arith, shallow) in
    outside 125 d out.0 (some-inj out.2) (head-written 125 (codes "snapshot") t.head put.0 out.0 out.1 (with-below 125 (codes "meta") (object inner.0) t.extra put.0 put.1 listed extra))

-- with its signatures a document is one level deeper
pub signed-within : {A : Type 0} (json : A → Option Data) (s : SignedDoc A) → ((d : Data) → json s.role ≡ Some d → depth d ≤ 126) → (o : Option Data) → signed_json json s ≡ o → NestsWithin max_depth o
signed-within json s low None w = tt
signed-within json s low (Some d) w =
    let role = bind_ok (json s.role) (λ x. signed_parts_json x s.signatures) d w in
    parts-below 124 role.0 s.signatures d role.2 (low role.0 role.1)

pub timestamp-within : (s : SignedDoc TimestampDoc) → AllStated s.role.meta → IsShallow s.role.extra → NestsWithin max_depth (signed_json timestamp_json s)
timestamp-within s all shallow = signed-within timestamp_json s (λ d w. timestamp-low s.role d all shallow w) (signed_json timestamp_json s) refl

pub snapshot-within : (s : SignedDoc SnapshotDoc) → AllStated s.role.meta → IsShallow s.role.extra → NestsWithin max_depth (signed_json snapshot_json s)
snapshot-within s all shallow = signed-within snapshot_json s (λ d w. snapshot-low s.role d all shallow w) (signed_json snapshot_json s) refl
