use Rattle.std.proofs.Common.{◌∙◌}
use Rattle.tough_schema.proofs.Looks.{is-listed}
use Rattle.tough_schema.proofs.nodes.is_listed.Goals as goal

pub returns : goal.returns
returns c = c.contains_key.ensures ∙ is-listed c.args.name.now c.args.document.now
