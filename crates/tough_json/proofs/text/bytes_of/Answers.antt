use Rattle.std.proofs.Common.{string_bytes}
use Rattle.std.proofs.lemmas.Str.{IsUtf8-had}
use Rattle.serde_json.specs.View.{view}
use Rattle.tough_json.proofs.lemmas.Json.{json_of-some}
use Rattle.tough_json.proofs.text.bytes_of.Goals as goal

pub returns-clause-back : goal.returns-clause-back
returns-clause-back c = λ shallow. rw c.into_bytes.ensures.value (json_of-some (string_bytes c.in_ok-text.text) (view c.args.value.now) (IsUtf8-had _ c.in_ok-text.text.ok) (c.in_ok-text.ensures.reads_back shallow))
