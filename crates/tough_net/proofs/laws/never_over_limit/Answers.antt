use Rattle.tough_net.specs.Limiting.{limit_of, limited}
use Rattle.tough_net.proofs.LimitLemmas.{Limits_never_over}
use Rattle.tough_net.proofs.laws.never_over_limit.Goals as goal

pub returns : goal.returns
returns g c = λ small within xs last h.
    Limits_never_over (limit_of c.args.stream.now) small (g.S.Stream.yields (limited c.args.stream.now)) within xs last h
