use Rattle.std.proofs.Common.{rules, ◌∙◌, ap}
use Rattle.url.specs.Parts.{serialize}
use Rattle.tough_load.proofs.load.fetch_file.Goals as goal

pub returns-in-Ok-fetch_whole-clause-started : goal.returns-in-Ok-fetch_whole-clause-started
returns-in-Ok-fetch_whole-clause-started g c = record {
  url = c.in-Ok.url;
  joined = search rules;
  asked = c.in-Ok-fetch_whole.ensures.bounds
      ∙ ap (λ d. record { url = serialize c.in-Ok.url; max = c.args.request.now.max_size; specifier = c.args.request.now.specifier.now; digests = d }) c.in-Ok-clone.ensures.cases;
  fresh = c.in-Ok-fetch_whole.ensures.fresh;
  served = c.in-Ok-fetch_whole.ensures.served;
}
