use Rattle.std.proofs.Common.{◌≡◌, ◌+◌, length}
use Rattle.tough_demo.proofs.build.add_targets.Given as goal

abbrev pub invariant-loop-number : goal.invariant-loop-number
invariant-loop-number l = length l.builder.files.items ≡ length l.initial.builder.files.items + l.number
