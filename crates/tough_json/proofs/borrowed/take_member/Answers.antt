use Rattle.std.proofs.Common.{◌∙◌, sym, rules}
use Rattle.json.specs.Value.{value_view as json_view, members_view as json_members}
use Rattle.serde_json.specs.Data.{no_members}
use Rattle.tough_json.proofs.lemmas.Borrowed.{refused-member, refused-others, has-last, has-none, value-later}
use Rattle.tough_json.specs.Reading.{without}
use Rattle.tough_json.proofs.borrowed.take_member.Goals as goal

pub returns-in-Some : goal.returns-in-Some
returns-in-Some c = λ ms h.
    let js = json_members c.args.members.items in
    let name = c.args.name.now in
    let last = sym c.in-Some.ensures in
    let d = value-later js no_members ms name (json_view c.in-Some.value) h last in
    (d.0, d.1, has-last js ms name (json_view c.in-Some.value) h last ∙ d.1, search rules)

pub returns-in-None : goal.returns-in-None
returns-in-None c = λ ms h. refused-member c.missing.result c.args.name.now ms c.missing.ensures (has-none (json_members c.args.members.items) ms c.args.name.now h (sym c.in-None.ensures))

pub returns-in-Err : goal.returns-in-Err
returns-in-Err c = λ ms h. refused-others c.in-Err.error c.args.name.now ms (without c.args.name.now ms) (c.in-Err.ensures ms (rw c.deref.ensures.value h))
