use Rattle.std.proofs.Common.{take}
use Rattle.tough_schema.specs.Gather.{shown}
use Rattle.tough_signed.specs.Standing.{AreStanding}
use Rattle.tough_release.proofs.filing.file_delegated.Given as goal

abbrev pub invariant-loop-role : goal.invariant-loop-role
invariant-loop-role l = AreStanding (shown (take l.role-index l.role-items)) l.all.items
