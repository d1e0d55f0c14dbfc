use Rattle.std.proofs.Common.{ℕ, subst}
use Rattle.tough_vault.specs.Vault.{parts_of}
use Rattle.tough_shared.specs.Shares.{Keeps}
use Rattle.tough_shared.proofs.locked.Locked.document_step.Goals as goal

pub returns-clause-step : goal.returns-clause-step
returns-clause-step g c =
    let old = parts_of c.args.self.now.vault in
    let new = parts_of c.put_document-result.new.self.vault in
    record {
      old = old;
      new = new;
      before = subst (λ (n : ℕ). Keeps g.S.Store.tells g.S.Store.files g.S.Store.count g.S.Store.changes n old) c.put_document-result.ensures.begins c.show.ensures;
      step = c.put_document-result.ensures.step;
      after = subst (λ (n : ℕ). Keeps g.S.Store.tells g.S.Store.files g.S.Store.count g.S.Store.changes n new) c.put_document-result.ensures.begun c.show-2.ensures;
    }
