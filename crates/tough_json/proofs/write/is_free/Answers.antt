use Rattle.std.proofs.Common.{is_none, not, sym, ap, ◌∙◌}
use Rattle.serde_json.proofs.Views.{view-lookup}
use Rattle.tough_json.proofs.lemmas.Write.{is_none-map}
use Rattle.tough_json.proofs.write.is_free.Goals as goal

pub returns : goal.returns
returns c = ap not c.contains_key.ensures ∙ sym (is_none-map _ _) ∙ ap is_none (view-lookup c.args.name.now c.args.members.now.entries)
