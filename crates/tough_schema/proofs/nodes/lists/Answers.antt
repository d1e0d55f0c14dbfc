use Rattle.std.proofs.Common.{sym, ◌∙◌}
use Rattle.tough_schema.proofs.Looks.{lists-some, lists-none}
use Rattle.tough_schema.proofs.nodes.lists.Goals as goal

pub returns-in-Some : goal.returns-in-Some
returns-in-Some c = c.is_listed.ensures ∙ sym (lists-some c.args.name.now c.args.role.now c.in-Some.signed c.in-Some.is)

pub returns-in-None : goal.returns-in-None
returns-in-None c = sym (lists-none c.args.name.now c.args.role.now c.in-None.is)
