use Rattle.std.proofs.Common.{◌+◌, length, Ok, Err}
use Rattle.tough_vault.specs.Journal.{number_of}
use Rattle.tough_vault.specs.Vault.{parts_of, notes_in}
use Rattle.tough_trust.specs.Vaults.{vault_keeps}
use Rattle.tough_shared.specs.Keeping.{next_of, shared_keeps}
use Rattle.tough_shared.specs.Receipts.{plain_of}
use Rattle.tough_shared.proofs.Going.{goes_on}
use Rattle.tough_shared.proofs.Rising.{rise, one-more, no-less, at-least, from-same}
use Rattle.tough_shared.proofs.laws.receipts_rise.Goals as goal

pub returns-clause-vault : goal.returns-clause-vault
returns-clause-vault g c v k new steps w =
    let t = g.S.Store.tells in let f = g.S.Store.files in let n = g.S.Store.count in
    rise (vault_keeps t f n) number_of (λ k. length (notes_in k.now)) v
    (λ k act r new h. one-more (notes_in k.now) (notes_in new.now) r (goes_on t f n v act (parts_of k.now) (parts_of new.now) (Ok r) h.0))
    (λ k act e new h. no-less (notes_in k.now) (notes_in new.now) e (goes_on t f n v act (parts_of k.now) (parts_of new.now) (Err e) h.0))
    steps k new (length (notes_in k.now)) (from-same (length (notes_in k.now))) w

pub returns-clause-shared : goal.returns-clause-shared
returns-clause-shared g c v k new steps w =
    rise (shared_keeps g.S.Store.tells g.S.Store.files g.S.Store.count) (λ r. number_of (plain_of r)) next_of v
    (λ k act r new h. (h.1.0, at-least (next_of new) (number_of (plain_of r) + 1) h.1.1))
    (λ k act e new h. at-least (next_of new) (next_of k) h.1)
    steps k new (next_of k) (from-same (next_of k)) w
