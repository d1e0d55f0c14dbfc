use Rattle.std.proofs.Common.{◌≡◌, ◌+◌, ◌≤◌, ◌++◌, vec_len, vec_capacity}
use Rattle.std.specs.Vec.Iter.{into_iter_items, into_iter_len}
use Rattle.tough_world.specs.Lives.{Lives, journals_of}
use Rattle.tough_world.proofs.lives.run_lives.Given as goal

abbrev pub invariant-loop-life : goal.invariant-loop-life
invariant-loop-life g l =
    Lives g.S.Store.tells g.S.Store.files g.S.Store.count (g.V.Verify.verifies l.initial.verifier) l.initial.store l.yielded (journals_of l.journals.items) l.store
    × (l.verifier ≡ l.initial.verifier)
    × (l.fn.lives.items ≡ l.yielded ++ into_iter_items l.life-iterator)
    × (vec_len l.journals + into_iter_len l.life-iterator ≤ vec_capacity l.journals)
