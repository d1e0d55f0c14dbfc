use Rattle.std.proofs.Common.{refl}
use Rattle.tough_vault.specs.Parts.{parts}
use Rattle.tough_vault.proofs.Keeping.{unchanged}
use Rattle.tough_vault.proofs.vault.Vault.read_root.Goals as goal

pub invariant_of-self : goal.invariant_of-self
invariant_of-self g c =
    let self = c.args.self.now in
    let s = unchanged g.S.Store.tells g.S.Store.files g.S.Store.count
    (parts c.args.self.now.store c.args.self.now.journal.items c.args.self.now.tip) (parts c.look.new.store c.args.self.now.journal.items c.args.self.now.tip)
    (record { replays = self.replays; rises = self.rises; free = self.free; holds = self.holds }) refl refl c.look.ensures.same in
    record { replays = s.replays; rises = s.rises; free = s.free; holds = s.holds }

pub returns : goal.returns
returns g c = record { sees = c.look.ensures; notes = refl; tip = refl }
