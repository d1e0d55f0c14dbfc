use Rattle.std.proofs.Common.{inl}
use Rattle.tough_vault.proofs.Ending.{ends_over}
use Rattle.tough_vault.proofs.rotated.replace.Goals as goal

pub returns-in-Written-clause-anew : goal.returns-in-Written-clause-anew
returns-in-Written-clause-anew g c =
    let r = c.in-Written.ensures.replaced in
    inl (record {
      between = r.filled;
      stored = r.fills.written;
      elsewhere = r.fills.elsewhere;
      tried = record {
        first = c.in-Written.timestamp;
        second = c.in-Written.snapshot;
        removes = record { between = r.removed; timestamp = r.tried_first; snapshot = r.tried_second };
        ends = ends_over _ r.filled c.replace.new.self _ _ _ _ _ (rw c.reserve.ensures.items at c.end.ensures);
      };
    })
