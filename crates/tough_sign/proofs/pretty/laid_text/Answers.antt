use Rattle.std.proofs.Common.{[], ◌∷◌, ◌++◌, ap, ◌∙◌}
use Rattle.tough_sign.proofs.pretty.laid_text.Goals as goal

pub returns : goal.returns
returns c = λ d plain is. c.in_ok-push.ensures.items ∙ ap (λ s. s ++ 10 ∷ []) (c.in_ok-laid.ensures d plain is)
