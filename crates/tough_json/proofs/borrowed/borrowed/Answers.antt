use Rattle.std.proofs.Common.{sym}
use Rattle.json.specs.Value.{value_view as json_view}
use Rattle.serde_json.specs.Read.{of_json}
use Rattle.tough_json.proofs.lemmas.Borrowed.{refused-bytes, is-value, is-no_value}
use Rattle.tough_json.proofs.lemmas.Json.{json_of-none}
use Rattle.tough_json.proofs.borrowed.borrowed.Goals as goal

pub returns-in_default : goal.returns-in_default
returns-in_default c = json_of-none c.args.bytes.now (λ u. absurd (c.in_default.ensures u))

pub returns-in-Err : goal.returns-in-Err
returns-in-Err c = refused-bytes c.in-Err.error c.in-Ok.text.now c.args.bytes.now c.in-Ok.ensures.0 c.in-Err.ensures

pub returns-then-is_value : goal.returns-then-is_value
returns-then-is_value c =
    is-value c.args.bytes.now c.in-Ok.text.now (of_json (json_view c.in-Ok-text_in.value)) c.in-Ok.ensures.1 c.in-Ok.ensures.0 c.in-Ok-text_in.ensures (sym c.if-is_value.ensures)

pub returns : goal.returns
returns c =
    is-no_value c.args.bytes.now c.in-Ok.text.now (of_json (json_view c.in-Ok-text_in.value)) c.in-Ok.ensures.0 c.in-Ok-text_in.ensures (sym c.if-is_value.ensures)
