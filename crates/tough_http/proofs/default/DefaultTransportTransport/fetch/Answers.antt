use Rattle.std.proofs.Common.{rules, inl, inr}
use Rattle.tough_http.proofs.default.DefaultTransportTransport.fetch.Goals as goal

pub returns-in_ok-fetch-clause-served : goal.returns-in_ok-fetch-clause-served
returns-in_ok-fetch-clause-served g c = λ xs last h. inl (search rules, c.in_ok-fetch.ensures.served xs last h)

pub returns-in_ok-fetch-2-clause-served : goal.returns-in_ok-fetch-2-clause-served
returns-in_ok-fetch-2-clause-served g c = λ xs last h. inr (search rules, c.in_ok-fetch-2.ensures.served xs last h)
