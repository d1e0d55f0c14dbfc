use Rattle.std.proofs.Common.{inl, refl}
use Rattle.tough_files.specs.Calls.{refused}
use Rattle.tough_write.proofs.put.Making.remake.Goals as goal

pub returns-in-Err : goal.returns-in-Err
returns-in-Err g c = λ tells. inl (c.refusal.result, (refused c.in-Err.error, (c.in-Err.ensures.told tells, c.refusal.ensures)), refl)
