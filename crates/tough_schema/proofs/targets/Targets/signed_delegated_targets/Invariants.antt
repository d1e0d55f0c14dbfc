use Rattle.std.proofs.Common.{◌≡◌, take}
use Rattle.tough_schema.specs.Whole.{held_docs}
use Rattle.tough_schema.specs.Entries.{documents_of}
use Rattle.tough_schema.specs.Gather.{shown}
use Rattle.tough_schema.proofs.targets.Targets.signed_delegated_targets.Given as goal

abbrev pub invariant-loop-role : goal.invariant-loop-role
invariant-loop-role l = held_docs l.found.items ≡ documents_of (shown (take l.role-index l.role-items))
