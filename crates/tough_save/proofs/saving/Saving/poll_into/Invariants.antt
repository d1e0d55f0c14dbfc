use Rattle.std.specs.Prelude.{◌≡◌, true}
use Rattle.futures.specs.Task.{Keeps}
use Rattle.tough_save.specs.Savings.{Saves, Tells, stream_of, temp_of, target_of}
use Rattle.tough_save.proofs.saving.Saving.poll_into.Given as goal

abbrev pub invariant-loop : goal.invariant-loop
invariant-loop g l =
    g.S.Stream.can_poll (stream_of l.self) × Keeps l.initial.cx l.cx
    × (temp_of l.self ≡ temp_of l.initial.self) × (target_of l.self ≡ target_of l.initial.self)
    × ((r : _) → Tells (g.S.Stream.yields (stream_of l.self)) r → Tells (g.S.Stream.yields (stream_of l.initial.self)) r)
    × (g.F.Files.tells ≡ true → (r : _) (calls : _)
    → Saves (g.S.Stream.yields (stream_of l.self)) (temp_of l.initial.self) (target_of l.initial.self) r (g.F.Files.calls l.files) calls
    → Saves (g.S.Stream.yields (stream_of l.initial.self)) (temp_of l.initial.self) (target_of l.initial.self) r (g.F.Files.calls l.initial.files) calls)
