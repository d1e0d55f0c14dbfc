use Rattle.std.proofs.Common.{rules, ◌≡◌, ◌∙◌, None, Err, length, string_bytes, sym, subst}
use Rattle.url.specs.Parts.{Parts}
use Rattle.url.specs.Parser.{Parsed, parse_url, Gives}
use Rattle.tough_net.specs.Urls.{with_slash, slashed, Refuses, IsRefused}
use Rattle.tough_net.proofs.urls.with_slash.Goals as goal

pub returns-in-Parse-clause-refused : goal.returns-in-Parse-clause-refused
returns-in-Parse-clause-refused c =
    let text-is : string_bytes c.in_ok-text.text ≡ slashed c.args.url = search rules in
    let expected : Parsed Parts = parse_url None (slashed c.args.url) in
    let ending : with_slash c.args.url ≡ expected = search rules in
    let asked : c.as_str-2.result.now ≡ slashed c.args.url = c.as_str-2.ensures.value ∙ text-is in
    let gives = subst (λ x. Gives (Err c.in-Err.error) (parse_url None x)) asked (subst (λ r. Gives r (parse_url None c.as_str-2.result.now)) c.in-Err.is c.parse.ensures) in
    let told = subst (λ x. IsRefused expected (length x) c.refusal.result) (c.as_str-3.ensures.value ∙ text-is) (c.refusal.ensures expected gives) in
    let parsed = subst (IsRefused expected (length (slashed c.args.url))) c.in-Parse.is told in
    (text-is, subst (λ x. Refuses x (length (slashed c.args.url)) c.in-Parse.source) (sym ending) parsed)
