use Rattle.std.specs.Prelude.{[], Ok, map}
use Rattle.std.proofs.Common.{subst}
use Rattle.tough_net.specs.Checking.{checked, url_of, expected_of}
use Rattle.tough_net.specs.Digests.{HasDigests}
use Rattle.tough_net.specs.Joining.{joined_pieces}
use Rattle.tough_net.specs.Limiting.{Limits, limit_of, limited}
use Rattle.tough_save.proofs.Digests.{joined-pieces, Checks_end}
use Rattle.tough_save.proofs.laws.ended_has_digest.Goals as goal

pub returns : goal.returns
returns g c = λ t base name size digests s begun pieces h.
    let ended = Checks_end (url_of s) (expected_of s) (Limits (limit_of (checked s)) (g.T.Stream.Stream.yields (limited (checked s)))) (map Ok pieces) ((rw begun.unfailed at h) [] begun.fresh) in
    subst (λ d. HasDigests d (joined_pieces pieces)) begun.expected (subst (λ l. HasDigests (expected_of s) l) (joined-pieces pieces) ended)
