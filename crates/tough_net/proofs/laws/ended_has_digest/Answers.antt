use Rattle.std.specs.Prelude.{[]}
use Rattle.tough_net.specs.Checking.{checked, url_of, expected_of}
use Rattle.tough_net.proofs.CheckLemmas.{Checks_ended}
use Rattle.tough_net.proofs.laws.ended_has_digest.Goals as goal

pub returns : goal.returns
returns g c = λ taken whole xs h.
    Checks_ended (url_of c.args.stream.now) (expected_of c.args.stream.now) [] (g.S.Stream.yields (checked c.args.stream.now)) xs ((rw whole at h) [] taken)
