use Rattle.std.proofs.Common.{Some}
use Rattle.tough_checks.specs.DocumentName.{name_of}
use Rattle.tough_vault.specs.Steps.{document_step}
use Rattle.tough_vault.specs.Parts.{parts}
use Rattle.tough_vault.proofs.Fitting.{after_taking, fits_document}
use Rattle.tough_vault.proofs.vault.Vault.put_written.Goals as goal

pub invariant_of-self : goal.invariant_of-self
invariant_of-self g c =
    let self = c.args.self.now in
    let before = parts c.args.self.now.store c.args.self.now.journal.items c.args.self.now.tip in
    let after = parts c.put_text.new.store c.put_text.new.journal.items c.put_text.new.tip in
    let name = name_of c.args.name.now in
    let text = Some c.in-Some.text.now.items in
    let s = after_taking g.S.Store.tells g.S.Store.files g.S.Store.count (document_step name text) before after c.put_text.result
    (record { replays = self.replays; rises = self.rises; free = self.free; holds = self.holds }) c.put_text.ensures.takes
    (fits_document g.S.Store.tells g.S.Store.files g.S.Store.count before self.free (g.S.Store.files c.put_text.new.store) name text c.args.name.now.free) in
    record { replays = s.replays; rises = s.rises; free = s.free; holds = s.holds }
