use Rattle.std.proofs.Common.{◌≡◌, true, false, sym, ◌∙◌}
use Rattle.serde_json.specs.View.{view}
use Rattle.tough_json.proofs.lemmas.Json.{json_of-some, json_of-none}
use Rattle.tough_json.proofs.text.value_of.Goals as goal

pub returns-in-Ok : goal.returns-in-Ok
returns-in-Ok c = json_of-some c.args.bytes.now (view c.in-Ok.value) c.in-Ok.ensures.ok.0 c.in-Ok.ensures.ok.1

pub returns-in-Err-2 : goal.returns-in-Err-2
returns-in-Err-2 c = json_of-none c.args.bytes.now (c.in-Err.ensures.err (λ m. let clash : true ≡ false = sym (c.is_memory.ensures.1 m) ∙ c.if-is_memory.false in cc))
