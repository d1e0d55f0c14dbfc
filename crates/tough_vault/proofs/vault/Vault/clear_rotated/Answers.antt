use Rattle.tough_vault.specs.Parts.{parts}
use Rattle.tough_vault.proofs.Keeping.{kept_cleared}
use Rattle.tough_vault.proofs.vault.Vault.clear_rotated.Goals as goal

pub invariant_of-self : goal.invariant_of-self
invariant_of-self g c =
    let self = c.args.self.now in
    let s = kept_cleared g.S.Store.tells g.S.Store.files g.S.Store.count
    (parts c.args.self.now.store c.args.self.now.journal.items c.args.self.now.tip) (parts c.clear.new.store c.clear.new.journal.items c.clear.new.tip) c.clear.result
    (record { replays = self.replays; rises = self.rises; free = self.free; holds = self.holds }) c.clear.ensures.clears in
    record { replays = s.replays; rises = s.rises; free = s.free; holds = s.holds }
