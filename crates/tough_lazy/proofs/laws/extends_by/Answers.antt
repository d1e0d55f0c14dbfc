use Rattle.tough_lazy.proofs.Extended.{along-more, along-under}
use Rattle.tough_lazy.proofs.laws.extends_by.Goals as goal

pub returns-clause-more : goal.returns-clause-more
returns-clause-more c = along-more

pub returns-clause-still : goal.returns-clause-still
returns-clause-still c = λ way e h d t u more there held. along-under way h d e t u held more there
