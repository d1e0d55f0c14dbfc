-- What is written for a timestamp is read as it.
use Rattle.std.proofs.Common.{◌≡◌, codes, Some, refl}
use Rattle.jiff_core.specs.Timestamp.{IsTimestampNanos}
use Rattle.serde_json.specs.Data.{Data, object}
use Rattle.tough_json.specs.Reading.{◌>>=◌, unless_null, hexadecimal, positive, whole, mapping}
use Rattle.tough_json.specs.Writing.{with, with_optional, optional_json, positive_json, length_json, hexadecimal_json, named}
use Rattle.tough_json.proofs.lemmas.Write.{bind_ok, some-inj, required-with, hexadecimal-back, positive-back, optional-back, stated-back, length-back, named-back}
use Rattle.tough_roles.specs.Head.{head_json}
use Rattle.tough_roles.specs.Timestamp.{HashesDoc, MetafileDoc, TimestampDoc, hashes_at, hashes_json, metafile_at, metafile_json, timestamp_at, timestamp_json}
use Rattle.tough_roles.proofs.lemmas.Head.{head-back}

pub hashes-back : (h : HashesDoc) (d : Data) → hashes_json h ≡ Some d → hashes_at d ≡ Some h
unfolding hashes_json hashes_at
hashes-back h d w =
    let second = bind_ok (optional_json hexadecimal_json h.sha512) _ d w in
    let rest = bind_ok (with_optional (codes "sha512") second.0 h.extra) _ d second.2 in
    let digits = bind_ok (hexadecimal_json h.sha256) (λ x. with (codes "sha256") x rest.0 >>= λ ms. Some (object ms)) d rest.2 in
    let members = bind_ok (with (codes "sha256") digits.0 rest.0) (λ ms. Some (object ms)) d digits.2 in
    rw (
      ← some-inj members.2,
      required-with (codes "sha256") hexadecimal digits.0 rest.0 members.0 h.sha256 members.1 (hexadecimal-back h.sha256 digits.0 digits.1),
      stated-back (codes "sha512") hexadecimal hexadecimal_json h.sha512 second.0 h.extra rest.0 hexadecimal-back second.1 rest.1,
    ) refl

object-back : (h : HashesDoc) (d : Data) → hashes_json h ≡ Some d → unless_null d ≡ Some d
unfolding hashes_json
object-back h d w =
    let second = bind_ok (optional_json hexadecimal_json h.sha512) _ d w in
    let rest = bind_ok (with_optional (codes "sha512") second.0 h.extra) _ d second.2 in
    let digits = bind_ok (hexadecimal_json h.sha256) (λ x. with (codes "sha256") x rest.0 >>= λ ms. Some (object ms)) d rest.2 in
    let members = bind_ok (with (codes "sha256") digits.0 rest.0) (λ ms. Some (object ms)) d digits.2 in
    rw (← some-inj members.2) refl

-- what is written for a metafile is read as it
pub metafile-back : (m : MetafileDoc) (d : Data) → metafile_json m ≡ Some d → metafile_at d ≡ Some m
unfolding metafile_json metafile_at
metafile-back m d w =
    let a = bind_ok (optional_json hashes_json m.hashes) _ d w in
    let b = bind_ok (with_optional (codes "hashes") a.0 m.extra) _ d a.2 in
    let c = bind_ok (optional_json length_json m.length) _ d b.2 in
    let e = bind_ok (with_optional (codes "length") c.0 b.0) _ d c.2 in
    let f = bind_ok (positive_json m.version) _ d e.2 in
    let g = bind_ok (with (codes "version") f.0 e.0) _ d f.2 in
    rw (
      ← some-inj g.2,
      required-with (codes "version") positive f.0 e.0 g.0 m.version g.1 (positive-back m.version f.0 f.1),
      optional-back (codes "length") whole length_json m.length c.0 b.0 e.0 length-back c.1 e.1,
      optional-back (codes "hashes") hashes_at hashes_json m.hashes a.0 m.extra b.0 (λ x y z. (object-back x y z, hashes-back x y z)) a.1 b.1,
    ) refl

pub timestamp-back : (t : TimestampDoc) (d : Data) → IsTimestampNanos t.head.expires → timestamp_json t ≡ Some d → timestamp_at d ≡ Some t
unfolding timestamp_json timestamp_at
timestamp-back t d range w =
    let a = bind_ok (named metafile_json t.meta) (λ inner. with (codes "meta") (object inner) t.extra >>= λ meta. head_json (codes "timestamp") t.head meta >>= λ ms. Some (object ms)) d w in
    let b = bind_ok (with (codes "meta") (object a.0) t.extra) (λ meta. head_json (codes "timestamp") t.head meta >>= λ ms. Some (object ms)) d a.2 in
    let c = bind_ok (head_json (codes "timestamp") t.head b.0) (λ ms. Some (object ms)) d b.2 in
    rw (
      ← some-inj c.2,
      head-back (codes "timestamp") t.head b.0 c.0 range c.1,
      required-with (codes "meta") (mapping metafile_at) (object a.0) t.extra b.0 t.meta b.1 (named-back metafile_at metafile_json t.meta a.0 metafile-back a.1),
    ) refl
