use Rattle.std.proofs.Common.{chars, ap, sym, ◌∙◌}
use Rattle.tough_names.specs.Items.{parts_of}
use Rattle.tough_names.specs.Grammar.{parts_in}
use Rattle.tough_names.proofs.lemmas.Patterns.{is_pattern}
use Rattle.tough_names.proofs.pattern.PathPattern.value.Goals as goal

pub returns-clause-pattern : goal.returns-clause-pattern
returns-clause-pattern c =
    is_pattern (chars c.args.self.now) (parts_of c.self.inside.items.items) (ap (λ t. parts_in (chars t)) (sym c.self.view_is) ∙ c.self.invariant)
