-- What is written for a head is read as it.
use Rattle.std.proofs.Common.{◌≡◌, ℤ, List, ℕ, codes, Some, refl}
use Rattle.jiff_core.specs.Timestamp.{IsTimestampNanos}
use Rattle.serde_json.specs.Data.{string, Members}
use Rattle.tough_json.specs.Moment.{moment_text}
use Rattle.tough_json.specs.Reading.{◌>>=◌, text, positive, instant}
use Rattle.tough_json.specs.Writing.{with, positive_json}
use Rattle.tough_json.proofs.lemmas.MomentExists.{parse_timestamp-text}
use Rattle.tough_json.proofs.lemmas.Write.{bind_ok, required-with, without-with, positive-back}
use Rattle.tough_roles.specs.Head.{Head, head_at, head_json, with_moment}

instant-back : (z : ℤ) (s : List ℕ) → IsTimestampNanos z → moment_text z ≡ Some s → instant (string s) ≡ Some z
instant-back z s range h = rw (parse_timestamp-text z s range h) refl

pub head-back : (kind : List ℕ) (h : Head) (ms new : Members) → IsTimestampNanos h.expires → head_json kind h ms ≡ Some new → head_at new ≡ Some (h, ms)
unfolding head_json head_at
head-back kind h ms new range w =
    let a = bind_ok (with (codes "_type") (string kind) ms) (λ typed. with_moment (codes "expires") h.expires typed >>= λ expires. positive_json h.version >>= λ value. with (codes "version") value expires >>= λ version. with (codes "spec_version") (string h.spec_version) version) new w in
    let b = bind_ok (with_moment (codes "expires") h.expires a.0) (λ expires. positive_json h.version >>= λ value. with (codes "version") value expires >>= λ version. with (codes "spec_version") (string h.spec_version) version) new a.2 in
    let t = bind_ok (moment_text h.expires) (λ text. with (codes "expires") (string text) a.0) b.0 b.1 in
    let c = bind_ok (positive_json h.version) (λ value. with (codes "version") value b.0 >>= λ version. with (codes "spec_version") (string h.spec_version) version) new b.2 in
    let e = bind_ok (with (codes "version") c.0 b.0) (λ version. with (codes "spec_version") (string h.spec_version) version) new c.2 in
    rw (
      required-with (codes "spec_version") text (string h.spec_version) e.0 new h.spec_version e.2 refl,
      required-with (codes "version") positive c.0 b.0 e.0 h.version e.1 (positive-back h.version c.0 c.1),
      required-with (codes "expires") instant (string t.0) a.0 b.0 h.expires t.2 (instant-back h.expires t.0 range t.1),
      without-with (codes "_type") (string kind) ms a.0 a.1,
    ) refl
