use Rattle.std.specs.Prelude.{string_bytes}
use Rattle.tough_net.proofs.EndLemmas.{Fetches_ended}
use Rattle.tough_net.proofs.laws.ends_where_a_body_did.Goals as goal

pub returns : goal.returns
returns g c = λ pieces h.
    Fetches_ended g.Q.Requests.bodies g.Q.Requests.answers c.args.stream.now.core.settings (g.Q.Requests.resource c.args.stream.now.requests) (string_bytes c.args.stream.now.url) c.args.stream.now.core.progress pieces h
