use Rattle.std.proofs.Common.{rules}
use Rattle.tough_net.proofs.CheckLemmas.{ChecksOn-After}
use Rattle.tough_net.specs.Checking.{url_of}
use Rattle.tough_net.specs.Digests.{digests_of}
use Rattle.tough_net.proofs.digest_check.DigestCheckStream.poll_next.Goals as goal

pub returns-in-Some-ready-clause-rest : goal.returns-in-Some-ready-clause-rest
returns-in-Some-ready-clause-rest g c =
    rw (c.take_in.ensures.others, c.in_default.is)
    (ChecksOn-After (url_of c.args.self.now) (digests_of c.args.self.now.digests) (g.S.Stream.yields c.args.self.now.stream) (g.S.Stream.yields c.poll_next.new.self) c.in-Some-ready.item (search rules) c.args.self.now.hashers c.take_in.new.self.hashers c.take_in.ensures.fed)
