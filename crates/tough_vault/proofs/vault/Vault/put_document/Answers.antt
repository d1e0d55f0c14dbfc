use Rattle.tough_checks.specs.DocumentName.{name_of}
use Rattle.tough_roles.specs.Written.{compact_by}
use Rattle.tough_vault.specs.Steps.{document_step}
use Rattle.tough_vault.specs.Parts.{parts}
use Rattle.tough_vault.proofs.Taking.{takes}
use Rattle.tough_vault.proofs.Fitting.{after_step, fits_document}
use Rattle.tough_vault.proofs.vault.Vault.put_document.Goals as goal

pub returns-clause-takes : goal.returns-clause-takes
returns-clause-takes g c = takes _ _ _ _ _ _ _ _ _ c.prepare_document-prepared.ensures.step (rw c.as_str.ensures at c.conclude.ensures.concludes)

pub invariant_of-self : goal.invariant_of-self
invariant_of-self g c =
    let self = c.args.self.now in
    let before = parts c.args.self.now.store c.args.self.now.journal.items c.args.self.now.tip in
    let after = parts c.conclude.new.store c.conclude.new.journal.items c.conclude.new.tip in
    let name = name_of c.args.name.now in
    let text = compact_by g.T.Role.json c.args.role.now in
    let s = after_step g.S.Store.tells g.S.Store.files g.S.Store.count (document_step name text) before after _ c.prepare_document-prepared.result c.conclude.result
    (record { replays = self.replays; rises = self.rises; free = self.free; holds = self.holds })
    c.prepare_document-prepared.ensures.step (rw c.as_str.ensures at c.conclude.ensures.concludes)
    (λ p ready. fits_document g.S.Store.tells g.S.Store.files g.S.Store.count before self.free (g.S.Store.files c.conclude.new.store) name text c.args.name.now.free) in
    record { replays = s.replays; rises = s.rises; free = s.free; holds = s.holds }
