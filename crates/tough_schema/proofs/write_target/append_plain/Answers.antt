use Rattle.std.proofs.Common.{codes, option_and_then, ap, ◌∙◌}
use Rattle.serde_json.specs.Data.{Data, Members, object, no_members, member}
use Rattle.serde_json.specs.View.{view}
use Rattle.tough_json.specs.Pieces.{text_in}
use Rattle.tough_schema.specs.Target.{target_doc}
use Rattle.tough_schema.proofs.TargetLemmas.{plain-json}
use Rattle.tough_schema.proofs.write_target.append_plain.Goals as goal

pub returns : goal.returns
returns c = λ plain.
    let base = c.args.out.items in
    let form = c.args.form in
    let found = c.in_ok-digest.ensures in
    let size = view c.length_value.result in
    let inner : Data = object (member (codes "sha256") found.0 no_members) in
    let whole : Members = member (codes "hashes") inner (member (codes "length") size no_members) in
    let opened = (c.in_ok-hashes.ensures base form no_members c.in_ok-begun.ensures).1 in
    let first = c.close-object.ensures base form no_members (codes "hashes") inner _ opened found.2 in
    let both = (c.in_ok-push.ensures base form (member (codes "hashes") inner no_members) first).1 in
    let told = c.in_ok-text.ensures base form whole both in
    (told.0, ap (option_and_then (text_in form)) (plain-json (target_doc c.args.target.now) found.0 size plain found.1 c.length_value.ensures) ∙ told.1, told.2)
