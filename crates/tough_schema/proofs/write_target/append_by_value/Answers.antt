use Rattle.std.proofs.Common.{option_and_then, ap, ◌∙◌}
use Rattle.tough_json.specs.Pieces.{text_in}
use Rattle.tough_schema.proofs.write_target.append_by_value.Goals as goal

pub returns : goal.returns
returns c =
    let told = c.in_ok-text.ensures in
    (told.0, ap (option_and_then (text_in c.args.form)) c.in_ok-value.ensures ∙ told.1, told.2)
