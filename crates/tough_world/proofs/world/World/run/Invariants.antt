use Rattle.std.proofs.Common.{◌≡◌}
use Rattle.tough_world.specs.View.{world_doc, verifier_of}
use Rattle.tough_world.specs.Turns.{Runs}
use Rattle.tough_world.proofs.world.World.run.Given as goal

abbrev pub invariant-loop-turn : goal.invariant-loop-turn
invariant-loop-turn g l =
    Runs g.S.Store.tells g.S.Store.files g.S.Store.count (g.V.Verify.verifies (verifier_of l.initial.self)) (world_doc l.initial.self) l.yielded (world_doc l.self)
    × (verifier_of l.self ≡ verifier_of l.initial.self)
