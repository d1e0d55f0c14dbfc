use Rattle.std.proofs.Common.{ap, ◌∙◌}
use Rattle.tough_vault.specs.Vault.{notes_in}
use Rattle.tough_shared.specs.Lines.{is_open}
use Rattle.tough_shared.proofs.Lined.{lines-open}
use Rattle.tough_shared.proofs.locked.Locked.end.Goals as goal

pub add-requires : goal.add-requires
add-requires g c = ap is_open c.args.self.same ∙ lines-open (notes_in c.args.self.vault)
