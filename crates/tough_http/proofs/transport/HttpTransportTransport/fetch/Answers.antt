use Rattle.std.proofs.Common.{rules, ◌≡◌}
use Rattle.std.specs.Prelude.{⊤, string_bytes}
use Rattle.url.specs.Parts.{serialize}
use Rattle.tough_http.proofs.ServesLemmas.{begun_serves}
use Rattle.tough_http.specs.Settings.{retries_of}
use Rattle.tough_http.specs.Transports.{builder_of}
use Rattle.tough_http.proofs.transport.HttpTransportTransport.fetch.Goals as goal

pub returns-in-Some-clause-served : goal.returns-in-Some-clause-served
returns-in-Some-clause-served g c =
    let same : c.retries.result ≡ retries_of (builder_of c.args.self.now) = search rules in
    let is : string_bytes c.in_ok-text.text ≡ serialize c.args.url.now = search rules in
    λ xs last h. (
      search rules,
      begun_serves (λ _ _ _ _. ⊤) (λ _ _ _. ⊤) c.retries.result (retries_of (builder_of c.args.self.now)) (string_bytes c.in_ok-text.text) (serialize c.args.url.now) (serialize c.in_ok-requests.requests.url) same is xs last (c.in-Some.ensures.yields xs last h),
    )
