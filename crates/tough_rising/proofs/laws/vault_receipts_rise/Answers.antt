use Rattle.std.proofs.Common.{◌≤◌, ◌+◌, Ok, Err}
use Rattle.tough_vault.specs.Journal.{number_of}
use Rattle.tough_vault.specs.Vault.{parts_of, notes_in}
use Rattle.tough_trust.specs.Vaults.{vault_keeps, vault_reads}
use Rattle.tough_load.specs.Words as load
use Rattle.tough_shared.proofs.Going.{goes_on}
use Rattle.tough_shared.proofs.Rising.{one-more, no-less, as-long}
use Rattle.tough_rising.specs.Rising.{entries_in}
use Rattle.tough_rising.proofs.Risen.{none, walked, stepped, opened}
use Rattle.tough_rising.proofs.laws.vault_receipts_rise.Goals as goal

pub returns-clause-load : goal.returns-clause-load
returns-clause-load g c l new from r begun f =
    let t = g.S.Store.tells in let fs = g.S.Store.files in let n = g.S.Store.count in let v = g.V.Verify.verifies (load.verifier_of l) in
    walked number_of (vault_keeps t fs n) (vault_reads t fs n) entries_in v
    (λ k act r new h. one-more (notes_in k.now) (notes_in new.now) r (goes_on t fs n v act (parts_of k.now) (parts_of new.now) (Ok r) h.0))
    (λ k act e new h. no-less (notes_in k.now) (notes_in new.now) e (goes_on t fs n v act (parts_of k.now) (parts_of new.now) (Err e) h.0))
    (λ k first r new h. as-long (notes_in k.now) (notes_in new.now) h.0.notes)
    (load.keeping_of l) (load.keeping_of new) f.stays.walked (none number_of (entries_in (load.keeper_of l)) (load.receipts_of l) begun.receipts)

pub returns-clause-repository : goal.returns-clause-repository
returns-clause-repository g c l from r begun o =
    let t = g.S.Store.tells in let fs = g.S.Store.files in let n = g.S.Store.count in let v = g.V.Verify.verifies (load.verifier_of l) in
    opened number_of entries_in o.ended o.outcome r o.told
    (walked number_of (vault_keeps t fs n) (vault_reads t fs n) entries_in v
    (λ k act r new h. one-more (notes_in k.now) (notes_in new.now) r (goes_on t fs n v act (parts_of k.now) (parts_of new.now) (Ok r) h.0))
    (λ k act e new h. no-less (notes_in k.now) (notes_in new.now) e (goes_on t fs n v act (parts_of k.now) (parts_of new.now) (Err e) h.0))
    (λ k first r new h. as-long (notes_in k.now) (notes_in new.now) h.0.notes)
    (load.keeping_of l) (load.keeping_of o.ended) o.finishes.stays.walked (none number_of (entries_in (load.keeper_of l)) (load.receipts_of l) begun.receipts))

pub returns-clause-steps : goal.returns-clause-steps
returns-clause-steps g c k new v act answer h i =
    let t = g.S.Store.tells in let fs = g.S.Store.files in let n = g.S.Store.count in
    stepped number_of (vault_keeps t fs n) (vault_reads t fs n) entries_in v
    (λ k act r new h. one-more (notes_in k.now) (notes_in new.now) r (goes_on t fs n v act (parts_of k.now) (parts_of new.now) (Ok r) h.0))
    (λ k act e new h. no-less (notes_in k.now) (notes_in new.now) e (goes_on t fs n v act (parts_of k.now) (parts_of new.now) (Err e) h.0))
    (λ k first r new h. as-long (notes_in k.now) (notes_in new.now) h.0.notes)
    act k new answer h i
