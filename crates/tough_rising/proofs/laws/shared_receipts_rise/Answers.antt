use Rattle.std.proofs.Common.{◌≤◌, ◌+◌}
use Rattle.tough_load.specs.Words as load
use Rattle.tough_shared.specs.Keeping.{next_of, shared_keeps, shared_reads}
use Rattle.tough_shared.proofs.Rising.{at-least}
use Rattle.tough_rising.specs.Rising.{tied_number}
use Rattle.tough_rising.proofs.Risen.{none, walked, stepped, opened}
use Rattle.tough_rising.proofs.laws.shared_receipts_rise.Goals as goal

pub returns-clause-load : goal.returns-clause-load
returns-clause-load g c l new from r begun f =
    walked tied_number (shared_keeps g.S.Store.tells g.S.Store.files g.S.Store.count) (shared_reads g.S.Store.tells g.S.Store.files g.S.Store.count) next_of (g.V.Verify.verifies (load.verifier_of l))
    (λ k act r new h. (h.1.0, at-least (next_of new) (tied_number r + 1) h.1.1))
    (λ k act e new h. at-least (next_of new) (next_of k) h.1)
    (λ k first r new h. at-least (next_of new) (next_of k) h.1)
    (load.keeping_of l) (load.keeping_of new) f.stays.walked (none tied_number (next_of (load.keeper_of l)) (load.receipts_of l) begun.receipts)

pub returns-clause-repository : goal.returns-clause-repository
returns-clause-repository g c l from r begun o =
    opened tied_number next_of o.ended o.outcome r o.told
    (walked tied_number (shared_keeps g.S.Store.tells g.S.Store.files g.S.Store.count) (shared_reads g.S.Store.tells g.S.Store.files g.S.Store.count) next_of (g.V.Verify.verifies (load.verifier_of l))
    (λ k act r new h. (h.1.0, at-least (next_of new) (tied_number r + 1) h.1.1))
    (λ k act e new h. at-least (next_of new) (next_of k) h.1)
    (λ k first r new h. at-least (next_of new) (next_of k) h.1)
    (load.keeping_of l) (load.keeping_of o.ended) o.finishes.stays.walked (none tied_number (next_of (load.keeper_of l)) (load.receipts_of l) begun.receipts))

pub returns-clause-steps : goal.returns-clause-steps
returns-clause-steps g c k new v act answer h i =
    stepped tied_number (shared_keeps g.S.Store.tells g.S.Store.files g.S.Store.count) (shared_reads g.S.Store.tells g.S.Store.files g.S.Store.count) next_of v
    (λ k act r new h. (h.1.0, at-least (next_of new) (tied_number r + 1) h.1.1))
    (λ k act e new h. at-least (next_of new) (next_of k) h.1)
    (λ k first r new h. at-least (next_of new) (next_of k) h.1)
    act k new answer h i
