use Rattle.std.proofs.Common.{rules, refl}
use Rattle.futures.proofs.RunLemmas.{Maps_first, Maps_end, Maps-After}
use Rattle.tough_net.specs.Limiting.{size_after}
use Rattle.tough_net.proofs.max_size.MaxSizeStream.poll_next.Goals as goal

pub returns-in-Some-clause-value : goal.returns-in-Some-clause-value
returns-in-Some-clause-value g c = Maps_first _ _ _ c.admit.new.self.size c.in-Some.item _ (search rules) (search rules)

pub returns-in-Some-clause-rest : goal.returns-in-Some-clause-rest
returns-in-Some-clause-rest g c =
    let gave = rw c.admit.ensures.counted at c.admit.ensures.gave in
    rw c.admit.ensures.counted (Maps-After _ _ _ _ (size_after c.args.self.now.size c.in-Some.item) c.in-Some.item _ (search rules) (refl, gave))

pub returns-in-None-clause-value : goal.returns-in-None-clause-value
returns-in-None-clause-value g c = Maps_end _ _ _ (search rules)
