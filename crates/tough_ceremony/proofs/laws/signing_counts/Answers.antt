use Rattle.tough_ceremony.proofs.Adding.{waiting_after, signed_after, once_after}
use Rattle.tough_ceremony.proofs.laws.signing_counts.Goals as goal

pub returns-clause-waiting : goal.returns-clause-waiting
returns-clause-waiting g c v signer r by old asked text before after well signed canonical there agrees = waiting_after v g.S.Sign.key g.S.Sign.signs signer r by old asked text before after (well, signed, canonical, there, agrees)

pub returns-clause-count : goal.returns-clause-count
returns-clause-count g c v signer r by old asked text before after well signed canonical there agrees = signed_after v g.S.Sign.key g.S.Sign.signs signer r by old asked text before after (well, signed, canonical, there, agrees)

pub returns-clause-once : goal.returns-clause-once
returns-clause-once g c signer r old before after signed once = once_after g.S.Sign.key g.S.Sign.signs signer r old before after signed once
