use Rattle.std.proofs.Common.{ℕ, subst}
use Rattle.tough_vault.specs.Vault.{parts_of}
use Rattle.tough_shared.specs.Shares.{Keeps}
use Rattle.tough_shared.proofs.locked.Locked.read_root.Goals as goal

pub returns : goal.returns
returns g c =
    let old = parts_of c.args.self.now.vault in
    let new = parts_of c.look-result.new.self.vault in (
      record {
        old = old;
        new = new;
        before = subst (λ (n : ℕ). Keeps g.S.Store.tells g.S.Store.files g.S.Store.count g.S.Store.changes n old) c.look-result.ensures.begins c.show.ensures;
        look = c.look-result.ensures.look;
        after = subst (λ (n : ℕ). Keeps g.S.Store.tells g.S.Store.files g.S.Store.count g.S.Store.changes n new) c.look-result.ensures.begun c.show-2.ensures;
      },
      c.look-result.ensures.alone,
    )
