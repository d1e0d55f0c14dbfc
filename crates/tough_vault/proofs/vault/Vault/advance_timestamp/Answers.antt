use Rattle.tough_roles.specs.Signature.{signed_doc}
use Rattle.tough_roles.specs.Root.{root_doc}
use Rattle.tough_roles.specs.Timestamp.{timestamp_doc}
use Rattle.tough_checks.specs.Checks.{enforces}
use Rattle.tough_vault.specs.Journal.{tip_of}
use Rattle.tough_vault.specs.Steps.{timestamp_step}
use Rattle.tough_vault.specs.Parts.{parts}
use Rattle.tough_vault.proofs.Taking.{takes}
use Rattle.tough_vault.proofs.Fitting.{after_step, fits_timestamp, when_ready, when_done}
use Rattle.tough_vault.proofs.vault.Vault.advance_timestamp.Goals as goal

pub returns-clause-takes : goal.returns-clause-takes
returns-clause-takes g c = takes _ _ _ _ _ _ _ _ _ c.prepare_timestamp-prepared.ensures.step c.conclude.ensures.concludes

pub returns-clause-back : goal.returns-clause-back
returns-clause-back g c = when_done _ _ c.prepare_timestamp-prepared.result c.conclude.result c.conclude.ensures.concludes.refused c.prepare_timestamp-prepared.ensures.back

pub invariant_of-self : goal.invariant_of-self
invariant_of-self g c =
    let self = c.args.self.now in
    let verifies = g.V.Verify.verifies c.args.verifier.now in
    let root = root_doc c.args.root.now in
    let new = signed_doc timestamp_doc c.args.new.now in
    let before = parts c.args.self.now.store c.args.self.now.journal.items c.args.self.now.tip in
    let after = parts c.conclude.new.store c.conclude.new.journal.items c.conclude.new.tip in
    let s = after_step g.S.Store.tells g.S.Store.files g.S.Store.count
    (timestamp_step verifies root (tip_of self.tip) new c.args.start.nanosecond (enforces c.args.enforcement)) before after _ c.prepare_timestamp-prepared.result c.conclude.result
    (record { replays = self.replays; rises = self.rises; free = self.free; holds = self.holds })
    c.prepare_timestamp-prepared.ensures.step c.conclude.ensures.concludes
    (λ p ready. fits_timestamp g.S.Store.tells g.S.Store.files g.S.Store.count before self.free (g.S.Store.files c.conclude.new.store) verifies root new c.args.start.nanosecond (enforces c.args.enforcement) (when_ready c.prepare_timestamp-prepared.result p c.prepare_timestamp-prepared.ensures.back ready)) in
    record { replays = s.replays; rises = s.rises; free = s.free; holds = s.holds }
