use Rattle.std.proofs.Common.{◌+◌, Some, length, subst}
use Rattle.url.specs.Parser.{parse_url, Gives}
use Rattle.tough_net.specs.Urls.{IsRefused}
use Rattle.tough_net.proofs.urls.join.Goals as goal

pub returns-in-Err-clause-refused : goal.returns-in-Err-clause-refused
returns-in-Err-clause-refused c =
    let expected = parse_url (Some c.args.base.now) c.args.name.now in
    subst (λ x. IsRefused expected (length x + length c.args.name.now) c.refusal.result) c.as_str.ensures.value
    (c.refusal.ensures expected (subst (λ r. Gives r expected) c.in-Err.is c.join.ensures))
