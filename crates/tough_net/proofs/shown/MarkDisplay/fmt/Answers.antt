use Rattle.std.proofs.Common.{◌∙◌, sym, rules}
use Rattle.tough_net.proofs.shown.MarkDisplay.fmt.Goals as goal

pub returns-then-is_control-clause-writes : goal.returns-then-is_control-clause-writes
returns-then-is_control-clause-writes g c = rw (sym c.is_control.ensures ∙ c.if-is_control.true) (search rules)

pub returns-else-is_control-clause-writes : goal.returns-else-is_control-clause-writes
returns-else-is_control-clause-writes g c = rw (sym c.is_control.ensures ∙ c.if-is_control.false) (search rules)
