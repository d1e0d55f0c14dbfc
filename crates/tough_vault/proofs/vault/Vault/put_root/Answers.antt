use Rattle.tough_roles.specs.Signature.{signed_doc}
use Rattle.tough_roles.specs.Root.{root_doc}
use Rattle.tough_vault.specs.Parts.{RootReadsBack, parts}
use Rattle.tough_vault.proofs.Putting.{puts, after_put, ready_on}
use Rattle.tough_vault.proofs.vault.Vault.put_root.Goals as goal

pub returns-clause-puts : goal.returns-clause-puts
returns-clause-puts g c = puts _ _ _ _ _ _ _ _ _ _ c.prepare_root-prepared.ensures.step c.conclude_root.ensures.concludes

pub returns-clause-back : goal.returns-clause-back
returns-clause-back g c = ready_on _ _ _ (RootReadsBack (signed_doc root_doc c.args.root.now)) _ _ c.prepare_root-prepared.result c.conclude_root.result c.conclude_root.ensures.concludes c.prepare_root-prepared.ensures.back

pub invariant_of-self : goal.invariant_of-self
invariant_of-self g c =
    let self = c.args.self.now in
    let before = parts c.args.self.now.store c.args.self.now.journal.items c.args.self.now.tip in
    let after = parts c.conclude_root.new.store c.conclude_root.new.journal.items c.conclude_root.new.tip in
    let s = after_put g.S.Store.tells g.S.Store.files g.S.Store.count (g.V.Verify.verifies c.args.verifier.now) (signed_doc root_doc c.args.root.now) before after
    (record { replays = self.replays; rises = self.rises; free = self.free; holds = self.holds }) _ c.prepare_root-prepared.result c.conclude_root.result
    c.prepare_root-prepared.ensures.back c.prepare_root-prepared.ensures.step c.conclude_root.ensures.concludes in
    record { replays = s.replays; rises = s.rises; free = s.free; holds = s.holds }
