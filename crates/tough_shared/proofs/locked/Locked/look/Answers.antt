use Rattle.std.proofs.Common.{ap, sym, ◌∙◌, length}
use Rattle.tough_vault.specs.Looking.{look_doc}
use Rattle.tough_vault.specs.Vault.{parts_of, notes_in}
use Rattle.tough_shared.specs.Lines.{begun_in, told, history}
use Rattle.tough_shared.proofs.Beginning.{looked}
use Rattle.tough_shared.proofs.Lined.{again}
use Rattle.tough_shared.proofs.locked.Locked.look.Goals as goal

pub invariant_of-self : goal.invariant_of-self
invariant_of-self g c =
    let old = c.args.self.now.vault in
    let new = c.read_root.new.self in
    let first = told c.args.self.now.tail.front.seen.log in
    let log = told c.show.new.self.front.seen.log in
    let is = ap told c.show.ensures.whole ∙ (c.args.self.now.same ∙ ap (history (begun_in first)) (sym c.read_root.ensures.notes)) in
    record {
      same = again (begun_in first) log (notes_in new) is;
      counted = c.args.self.now.counted ∙ ap length (sym c.read_root.ensures.notes);
      begins = looked g.S.Store.tells g.S.Store.files g.S.Store.count g.S.Store.changes (begun_in first) (begun_in log) (parts_of old) (parts_of new) (g.V.Verify.verifies c.args.verifier.now) c.args.first (look_doc c.read_root.result) (ap begun_in is) c.read_root.ensures c.args.self.now.begins;
    }
